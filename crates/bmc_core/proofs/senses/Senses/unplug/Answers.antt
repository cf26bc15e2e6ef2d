-- The watch tries the step, and the sensors follow it.
use Rattle.std.proofs.Common.{refl, sym, subst}
use Rattle.std.specs.Prelude.{Result, ⊤}
use Rattle.bmc_machine.specs.Histories.{Unplug}
use Rattle.bmc_base.specs.Steps.{IsWithin}
use Rattle.bmc_watch.specs.Counting.{most_evals}
use Rattle.bmc_core.specs.Acts.{Notes}
use Rattle.bmc_core.specs.Senses.{KeepsSlots, SensesView}
use Rattle.bmc_core.specs.declared.fault.CoreFault.{CoreFault}
use Rattle.bmc_core.proofs.NotesLemmas.{answered, slots_answered}
use Rattle.bmc_core.proofs.senses.Senses.unplug.Goals as goal

pub returns-clause-notes : goal.returns-clause-notes
returns-clause-notes g c =
    let old : SensesView = record { watch = c.self.inside.watch; sensors = c.self.inside.sensors; ticks = c.self.inside.ticks } in
    let new : SensesView = record { watch = c.unplug.new.self; sensors = c.unplug.new.sensors; ticks = c.self.inside.ticks } in
    subst (λ (senses : SensesView). Notes senses (Unplug c.args.place) c.answer.result new) c.self.view_is
    (subst (λ (result : Result ⊤ CoreFault). Notes old (Unplug c.args.place) result new) (sym c.answer.ensures)
    (answered old new (Unplug c.args.place) c.unplug.result (λ name tick. refl) refl tt refl c.unplug.ensures.tried c.unplug.ensures.same))

pub returns-clause-slots : goal.returns-clause-slots
returns-clause-slots g c =
    let old : SensesView = record { watch = c.self.inside.watch; sensors = c.self.inside.sensors; ticks = c.self.inside.ticks } in
    let new : SensesView = record { watch = c.unplug.new.self; sensors = c.unplug.new.sensors; ticks = c.self.inside.ticks } in
    subst (λ (senses : SensesView). KeepsSlots c.answer.result senses new) c.self.view_is
    (subst (λ (result : Result ⊤ CoreFault). KeepsSlots result old new) (sym c.answer.ensures)
    (slots_answered old new (Unplug c.args.place) c.unplug.result c.unplug.ensures.tried))

pub returns-clause-counted : goal.returns-clause-counted
returns-clause-counted g c =
    subst (λ (view : SensesView). IsWithin c.args.steps.now c.unplug.new.steps (most_evals view.watch.configs)) c.self.view_is c.unplug.ensures.counted
