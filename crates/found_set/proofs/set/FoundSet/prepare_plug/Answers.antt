use Rattle.std.proofs.Common.{◌≡◌, ap, sym}
use Rattle.found_set.specs.declared.next_facts.EventKey.TheVariants as key
use Rattle.found_set.specs.declared.row.Row.{Row}
use Rattle.found_set.specs.Rows.{row_of}
use Rattle.found_set.specs.Events.{PlugEvent}
use Rattle.found_set.proofs.SetsLemmas.{prepared}
use Rattle.found_set.proofs.set.FoundSet.prepare_plug.Goals as goal

pub returns : goal.returns
returns g c =
    let made : c.in_ok-row.row ≡ row_of c.args.entry.now = c.in_ok-row.ensures in
    rw (← made) (prepared c.args.self.now c.unstage.new.self c.stage_plug.new.self (PlugEvent c.in_ok-row.row) _ c.facts_with-facts.result _ _ c.unstage.ensures
    (ap key.Plug (sym (ap (λ (r : Row). r.place) made))) c.facts_with-facts.ensures.facts c.in_ok-stage_plug.ensures.ok c.facts_with-facts.ensures.counted)
