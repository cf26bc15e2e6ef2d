-- A reading leaves the zones.
use Rattle.std.proofs.Common.{◌≡◌, ℤ, of_z, refl, rules, subst, to_z, w64}
use Rattle.bmc_machine.specs.Histories.{Read}
use Rattle.bmc_core.specs.Acts.{StateApplies}
use Rattle.bmc_core.specs.States.{StateView}
use Rattle.bmc_core.proofs.StateLemmas.{state_next, sensed}
use Rattle.bmc_core.proofs.state.State.read.Goals as goal

pub invariant_of-self : goal.invariant_of-self
invariant_of-self g c =
    let old : StateView = record { senses = c.self.inside.senses; zones = c.self.inside.zones; strict = c.self.inside.strict } in
    let new : StateView = record { senses = c.read.new.self; zones = c.self.inside.zones; strict = c.self.inside.strict } in (
      state_next old new (Read c.args.name.now (to_z w64 (of_z w64 c.args.raw))) c.read.result c.self.invariant.0
          (sensed old new (Read c.args.name.now (to_z w64 (of_z w64 c.args.raw))) c.read.result refl refl refl c.read.ensures.notes c.read.ensures.names
          refl refl)
          c.self.invariant.0.enough,
      c.read.ensures.health c.self.inside.zones.held c.self.invariant.1,
    )

pub returns : goal.returns
returns g c =
    let old : StateView = record { senses = c.self.inside.senses; zones = c.self.inside.zones; strict = c.self.inside.strict } in
    let new : StateView = record { senses = c.read.new.self; zones = c.self.inside.zones; strict = c.self.inside.strict } in
    let same : to_z w64 (of_z w64 c.args.raw) ≡ c.args.raw = search rules in
    subst (λ (raw : ℤ). StateApplies c.args.self.now (Read c.args.name.now raw) c.read.result new) same
    (subst (λ (state : StateView). StateApplies state (Read c.args.name.now (to_z w64 (of_z w64 c.args.raw))) c.read.result new) c.self.view_is
    (sensed old new (Read c.args.name.now (to_z w64 (of_z w64 c.args.raw))) c.read.result refl refl refl c.read.ensures.notes c.read.ensures.names refl refl))
