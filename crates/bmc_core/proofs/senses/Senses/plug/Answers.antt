-- The watch tries the step, and the sensors follow it.
use Rattle.std.proofs.Common.{Bool, refl, sym, subst}
use Rattle.std.specs.Prelude.{Result, ⊤}
use Rattle.bmc_machine.specs.Histories.{Plug}
use Rattle.bmc_watch.specs.Counting.{TestsPlug}
use Rattle.bmc_core.specs.Acts.{Notes, is_short}
use Rattle.bmc_core.specs.Senses.{KeepsSlots, SensesView}
use Rattle.bmc_core.specs.declared.fault.CoreFault.{CoreFault}
use Rattle.bmc_core.proofs.NotesLemmas.{answered, slots_answered, short_is}
use Rattle.bmc_core.proofs.senses.Senses.plug.Goals as goal

pub returns-clause-notes : goal.returns-clause-notes
returns-clause-notes g c =
    let old : SensesView = record { watch = c.self.inside.watch; sensors = c.self.inside.sensors; ticks = c.self.inside.ticks } in
    let new : SensesView = record { watch = c.plug.new.self; sensors = c.plug.new.sensors; ticks = c.self.inside.ticks } in
    subst (λ (senses : SensesView). Notes senses (Plug c.args.place c.args.bytes.now) c.answer.result new) c.self.view_is
    (subst (λ (result : Result ⊤ CoreFault). Notes old (Plug c.args.place c.args.bytes.now) result new) (sym c.answer.ensures)
    (answered old new (Plug c.args.place c.args.bytes.now) c.plug.result (λ name tick. refl) refl tt refl c.plug.ensures.tried c.plug.ensures.same))

pub returns-clause-slots : goal.returns-clause-slots
returns-clause-slots g c =
    let old : SensesView = record { watch = c.self.inside.watch; sensors = c.self.inside.sensors; ticks = c.self.inside.ticks } in
    let new : SensesView = record { watch = c.plug.new.self; sensors = c.plug.new.sensors; ticks = c.self.inside.ticks } in
    subst (λ (senses : SensesView). KeepsSlots c.answer.result senses new) c.self.view_is
    (subst (λ (result : Result ⊤ CoreFault). KeepsSlots result old new) (sym c.answer.ensures)
    (slots_answered old new (Plug c.args.place c.args.bytes.now) c.plug.result c.plug.ensures.tried))

pub returns-clause-counted : goal.returns-clause-counted
returns-clause-counted g c =
    subst (λ (view : SensesView). TestsPlug (is_short c.answer.result) view.watch c.args.place c.args.bytes.now c.args.steps.now c.plug.new.steps)
    c.self.view_is
    (subst (λ (short : Bool). TestsPlug short c.self.inside.watch c.args.place c.args.bytes.now c.args.steps.now c.plug.new.steps)
    (short_is c.plug.result c.answer.result c.answer.ensures) c.plug.ensures.counted)
