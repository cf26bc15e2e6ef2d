-- The state takes the act, and the log notes what came of it.
use Rattle.std.proofs.Common.{◌≡◌, ◌∙◌, ap, subst}
use Rattle.bmc_watch.specs.Watches.{WatchView}
use Rattle.bmc_core.specs.Acts.{Applies, step_of}
use Rattle.bmc_core.specs.Cores.{CoreView}
use Rattle.bmc_core.specs.Senses.{SensesView}
use Rattle.bmc_core.proofs.CoreLemmas.{core_tried, is_done}
use Rattle.bmc_core.proofs.core_state.Core.apply.Goals as goal

-- the log is told the tick count and the changes of then
clock : (g : _) (c : goal.After-note_answer g) → c.ticks.result ≡ c.apply-answer.new.self.senses.ticks
clock g c = c.ticks.ensures ∙ ap (λ (senses : SensesView). senses.ticks) c.senses-senses.ensures

same : (g : _) (c : goal.After-note_answer g) → c.changes.result.now ≡ c.apply-answer.new.self.senses.watch.changes
same g c =
    c.changes.ensures
    ∙ ap (λ (watch : WatchView). watch.changes) (c.watch.ensures ∙ ap (λ (senses : SensesView). senses.watch) c.senses-senses.ensures)

pub returns-clause-applies : goal.returns-clause-applies
returns-clause-applies g c =
    let old : CoreView = record { state = c.self.inside.state; log = c.self.inside.log } in
    let new : CoreView = record { state = c.apply-answer.new.self; log = c.note_answer.new.log } in
    subst (λ (core : CoreView). Applies core (step_of c.args.act) c.apply-answer.result new) c.self.view_is
    (core_tried old new (step_of c.args.act) c.apply-answer.result c.plug_place-plugged.result c.ticks.result c.changes.result.now (is_done c.args.act)
    c.apply-answer.ensures.applies c.plug_place-plugged.ensures (clock g c) (same g c) c.note_answer.ensures)
