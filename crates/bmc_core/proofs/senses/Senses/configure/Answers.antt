-- The watch tries the step, and the sensors follow it.
use Rattle.std.proofs.Common.{[], ◌∷◌, ◌++◌, refl, sym, subst}
use Rattle.std.specs.Prelude.{Result, ⊤}
use Rattle.bmc_machine.specs.Histories.{Configure}
use Rattle.bmc_base.specs.Steps.{IsWithin}
use Rattle.bmc_watch.specs.Counting.{most_evals}
use Rattle.bmc_core.specs.Acts.{Notes}
use Rattle.bmc_core.specs.Senses.{KeepsSlots, SensesView}
use Rattle.bmc_core.specs.declared.fault.CoreFault.{CoreFault}
use Rattle.bmc_core.proofs.NotesLemmas.{answered, slots_answered}
use Rattle.bmc_core.proofs.senses.Senses.configure.Goals as goal

pub returns-clause-notes : goal.returns-clause-notes
returns-clause-notes g c =
    let old : SensesView = record { watch = c.self.inside.watch; sensors = c.self.inside.sensors; ticks = c.self.inside.ticks } in
    let new : SensesView = record { watch = c.configure.new.self; sensors = c.configure.new.sensors; ticks = c.self.inside.ticks } in
    subst (λ (senses : SensesView). Notes senses (Configure c.args.config) c.answer.result new) c.self.view_is
    (subst (λ (result : Result ⊤ CoreFault). Notes old (Configure c.args.config) result new) (sym c.answer.ensures)
    (answered old new (Configure c.args.config) c.configure.result (λ name tick. refl) refl tt refl c.configure.ensures.tried c.configure.ensures.same))

pub returns-clause-slots : goal.returns-clause-slots
returns-clause-slots g c =
    let old : SensesView = record { watch = c.self.inside.watch; sensors = c.self.inside.sensors; ticks = c.self.inside.ticks } in
    let new : SensesView = record { watch = c.configure.new.self; sensors = c.configure.new.sensors; ticks = c.self.inside.ticks } in
    subst (λ (senses : SensesView). KeepsSlots c.answer.result senses new) c.self.view_is
    (subst (λ (result : Result ⊤ CoreFault). KeepsSlots result old new) (sym c.answer.ensures)
    (slots_answered old new (Configure c.args.config) c.configure.result c.configure.ensures.tried))

pub returns-clause-counted : goal.returns-clause-counted
returns-clause-counted g c =
    subst (λ (view : SensesView). IsWithin c.args.steps.now c.configure.new.steps (most_evals (view.watch.configs ++ c.args.config ∷ []))) c.self.view_is
    c.configure.ensures.counted
