-- The state ticks, and the log notes what the tick changed.
use Rattle.std.proofs.Common.{◌≡◌, ◌∙◌, None, Ok, ap, refl, subst}
use Rattle.bmc_machine.specs.Histories.{Tick}
use Rattle.bmc_watch.specs.Watches.{WatchView}
use Rattle.bmc_core.specs.Acts.{Applies}
use Rattle.bmc_core.specs.Cores.{CoreView, ticked_core}
use Rattle.bmc_core.specs.Senses.{SensesView}
use Rattle.bmc_core.proofs.CoreLemmas.{core_ticked, core_tried, tick_done}
use Rattle.bmc_core.proofs.core_state.Core.tick.Goals as goal

-- the log is told the tick count and the changes of then
clock : (g : _) (c : goal.After-note_changes g) → c.ticks.result ≡ c.tick.new.self.senses.ticks
clock g c = c.ticks.ensures ∙ ap (λ (senses : SensesView). senses.ticks) c.senses-senses.ensures

same : (g : _) (c : goal.After-note_changes g) → c.changes.result.now ≡ c.tick.new.self.senses.watch.changes
same g c =
    c.changes.ensures
    ∙ ap (λ (watch : WatchView). watch.changes) (c.watch.ensures ∙ ap (λ (senses : SensesView). senses.watch) c.senses-senses.ensures)

pub returns-clause-exact : goal.returns-clause-exact
returns-clause-exact g c =
    let old : CoreView = record { state = c.self.inside.state; log = c.self.inside.log } in
    core_ticked old c.tick.new.self c.ticks.result c.changes.result.now c.note_changes.new.log c.tick.ensures.exact (clock g c) (same g c)
    c.note_changes.ensures.exact
    ∙ ap ticked_core c.self.view_is

pub returns-clause-applies : goal.returns-clause-applies
returns-clause-applies g c =
    let old : CoreView = record { state = c.self.inside.state; log = c.self.inside.log } in
    let new : CoreView = record { state = c.tick.new.self; log = c.note_changes.new.log } in
    subst (λ (core : CoreView). Applies core Tick (Ok tt) new) c.self.view_is
    (core_tried old new Tick (Ok tt) None c.ticks.result c.changes.result.now tick_done c.tick.ensures.applies refl (clock g c) (same g c)
    c.note_changes.ensures)
