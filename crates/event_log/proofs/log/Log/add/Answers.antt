use Rattle.std.proofs.Common.{◌≤◌, ◌≡◌, refl, sym, arith}
use Rattle.bmc_base.specs.Counts.{raised}
use Rattle.event_log.specs.declared.entry.Class.TheVariants.{Error, Info}
use Rattle.event_log.specs.Stands.{LogView}
use Rattle.event_log.proofs.RisingLemmas.{rising_with}
use Rattle.event_log.proofs.KeptLemmas.{stands_more}
use Rattle.event_log.proofs.log.Log.add.Goals as goal

pub invariant_of-self : goal.invariant_of-self
invariant_of-self c =
    let over : c.self.inside.last_id ≤ c.saturating_add-id.result = grind (arith, c.saturating_add-id.ensures) in
    rw (c.push_newest.ensures.errors, c.push_newest.ensures.infos) (
      c.self.invariant.0,
      c.self.invariant.1,
      rising_with Error c.self.inside.errors.capacity c.self.inside.last_id c.self.inside.errors.items _ over c.self.invariant.2,
      rising_with Info c.self.inside.infos.capacity c.self.inside.last_id c.self.inside.infos.items _ over c.self.invariant.3,
    )

pub returns-clause-takes : goal.returns-clause-takes
returns-clause-takes c all stands =
    let log : LogView = record {
      errors = c.self.inside.errors.items;
      infos = c.self.inside.infos.items;
      error_cap = c.self.inside.errors.capacity;
      last_id = c.self.inside.last_id;
    } in
    let next : c.saturating_add-id.result ≡ raised c.self.inside.last_id 1 = grind (arith, c.saturating_add-id.ensures) in
    rw (c.push_newest.ensures.errors, c.push_newest.ensures.infos, c.self.invariant.1, next, sym c.self.view_is)
    (stands_more log all _ c.self.invariant.0 refl (rw c.self.view_is stands))
