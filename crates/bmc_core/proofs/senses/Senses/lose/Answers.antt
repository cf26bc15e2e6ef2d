-- A name without a sensor is refused; else its sensor takes the loss.
use Rattle.std.proofs.Common.{◌≡◌, ◌∙◌, Bool, option_map, refl, sym, ap, subst}
use Rattle.std.proofs.lemmas.Option.{same_Some}
use Rattle.sensor_core.specs.Sensors.{Sensor}
use Rattle.sensor_core.specs.Updates.{lost_after}
use Rattle.bmc_core.specs.Health.{IsTrueOf, health_after_loss}
use Rattle.bmc_core.specs.declared.input_health.InputHealth.{InputHealth}
use Rattle.bmc_core.proofs.HealthLemmas.{sensor_at_slot, true_after_loss}
use Rattle.bmc_machine.specs.Histories.{Lose}
use Rattle.bmc_core.specs.Acts.{Notes}
use Rattle.bmc_core.specs.Senses.{SensesView}
use Rattle.bmc_core.proofs.NotesLemmas.{asked, lose_unknown, lose_told, slot_stays}
use Rattle.bmc_core.proofs.senses.Senses.lose.Goals as goal

pub returns-in_default-clause-notes : goal.returns-in_default-clause-notes
returns-in_default-clause-notes g c =
    let old : SensesView = record { watch = c.self.inside.watch; sensors = c.find_slot.new.self; ticks = c.self.inside.ticks } in
    let is : old ≡ c.args.self.now = asked c.find_slot.ensures.same c.self.view_is in
    subst (λ (senses : SensesView). Notes senses (Lose c.args.name.now) c.refuse.result c.refuse.new.self) is
    (lose_unknown old c.refuse.new.self c.args.name.now c.find_slot.result c.refuse.result c.find_slot.ensures.sensor c.in_default.is
    c.refuse.ensures.result c.refuse.ensures.left)

pub returns-clause-notes : goal.returns-clause-notes
returns-clause-notes g c =
    let old : SensesView = record { watch = c.self.inside.watch; sensors = c.find_slot.new.self; ticks = c.self.inside.ticks } in
    let is : old ≡ c.args.self.now = asked c.find_slot.ensures.same c.self.view_is in
    let new : SensesView = record { watch = c.tell_reading.new.self; sensors = c.lost.new.self; ticks = c.self.inside.ticks } in
    let has = sym c.find_slot.ensures.slot ∙ c.in-Some.is in
    subst (λ (senses : SensesView). Notes senses (Lose c.args.name.now) _ new) is
    (lose_told old new c.args.name.now c.in-Some.slot c.find_slot.result c.at-sensor.result.now c.at-sensor-2.result.now c.lost.new.self
    c.find_slot.ensures.sensor c.in-Some.is c.find_slot.ensures.slot (c.at-sensor.ensures c.args.name.now has)
    (c.at-sensor-2.ensures c.args.name.now (slot_stays c.find_slot.new.self c.lost.new.self c.args.name.now c.in-Some.slot c.lost.ensures.changes.names has))
    (c.tell_reading.ensures c.at-sensor.result.now c.of-before.ensures) refl refl
    c.lost.ensures.changes _ refl)

pub returns-clause-health : goal.returns-clause-health
returns-clause-health g c = λ held is.
    let old = c.find_slot.new.self in
    let same = asked c.find_slot.ensures.same c.self.view_is in
    let new = c.lost.new.self in
    let name = c.args.name.now in
    let slot = c.in-Some.slot in
    let health = c.args.health.now in
    let was : Sensor = c.at-sensor.result.now in
    let now : Sensor = c.at-sensor-2.result.now in
    let has = sym c.find_slot.ensures.slot ∙ c.in-Some.is in
    let stays = slot_stays old new name slot c.lost.ensures.changes.names has in
    let here = sensor_at_slot old name slot was has (c.at-sensor.ensures name has) in
    let there = sensor_at_slot new name slot now stays (c.at-sensor-2.ensures name stays) in
    let made : now ≡ lost_after was =
    same_Some now (lost_after was) (sym there ∙ (c.lost.ensures.changes.slots.changed ∙ ap (option_map lost_after) here)) in
    let before : IsTrueOf old.slots held health = subst (λ (view : SensesView). IsTrueOf view.sensors.slots held health) (sym same) is in
    subst (λ (it : InputHealth). IsTrueOf new.slots held it) (sym c.after_loss.ensures)
    (subst (λ (it : Sensor). IsTrueOf new.slots held (health_after_loss health c.is_failed-had_failed.result it)) (sym made)
    (subst (λ (failed : Bool). IsTrueOf new.slots held (health_after_loss health failed (lost_after was))) (sym c.is_failed-had_failed.ensures)
    (true_after_loss old.slots new.slots slot was held health c.lost.ensures.changes.slots here before)))
