-- A name without a sensor is refused, and so is a raw number out of its range; else the sensor takes the reading.
use Rattle.std.proofs.Common.{rules, ◌≡◌, ◌∙◌, ℤ, false, List, Option, IfSome, refl, sym, ap, subst, w64, to_z, of_z}
use Rattle.std.specs.Prelude.{◌↔◌}
use Rattle.live_sensors.specs.Sensors.{LiveSensors}
use Rattle.bmc_machine.specs.Histories.{Read}
use Rattle.sensor_core.specs.Sensors.{Sensor, ShowSame}
use Rattle.sensor_core.specs.Updates.{good_after}
use Rattle.bmc_core.specs.Acts.{Notes}
use Rattle.bmc_core.specs.Health.{IsTrueOf}
use Rattle.bmc_core.proofs.HealthLemmas.{true_behind_reading}
use Rattle.bmc_core.specs.Senses.{SensesView, quiet_senses}
use Rattle.bmc_core.proofs.NotesLemmas.{asked, read_unknown, read_outside, read_told, slot_stays, nothing_told, sensor_made}
use Rattle.bmc_core.proofs.senses.Senses.read.Goals as goal

pub returns-in_default-clause-notes : goal.returns-in_default-clause-notes
returns-in_default-clause-notes g c =
    let old : SensesView = record { watch = c.self.inside.watch; sensors = c.find_slot.new.self; ticks = c.self.inside.ticks } in
    let is : old ≡ c.args.self.now = asked c.find_slot.ensures.same c.self.view_is in
    subst (λ (senses : SensesView). Notes senses (Read c.args.name.now c.args.raw) c.refuse.result c.refuse.new.self) is
    (read_unknown old c.refuse.new.self c.args.name.now c.args.raw c.find_slot.result c.refuse.result c.find_slot.ensures.sensor c.in_default.is
    c.refuse.ensures.result c.refuse.ensures.left)

pub returns-then-otherwise-clause-notes : goal.returns-then-otherwise-clause-notes
returns-then-otherwise-clause-notes g c =
    let old : SensesView = record { watch = c.self.inside.watch; sensors = c.find_slot.new.self; ticks = c.self.inside.ticks } in
    let is : old ≡ c.args.self.now = asked c.find_slot.ensures.same c.self.view_is in
    let new : SensesView = record { watch = c.tell_reading.new.self; sensors = c.good.new.self; ticks = c.self.inside.ticks } in
    let has = sym c.find_slot.ensures.slot ∙ c.in-Some.is in
    let same : to_z w64 (of_z w64 c.args.raw) ≡ c.args.raw = search rules in
    subst (λ (raw : ℤ). Notes c.args.self.now (Read c.args.name.now raw) _ new) same
    (subst (λ (senses : SensesView). Notes senses (Read c.args.name.now (to_z w64 (of_z w64 c.args.raw))) _ new) is
    (read_told old new c.args.name.now c.in-Some.slot c.find_slot.result c.at-sensor.result.now c.at-after.result.now c.good.new.self
    c.find_slot.ensures.sensor c.in-Some.is c.find_slot.ensures.slot (c.at-sensor.ensures c.args.name.now has)
    (c.at-after.ensures c.args.name.now (slot_stays c.find_slot.new.self c.good.new.self c.args.name.now c.in-Some.slot c.in-Ok.ensures.changes.names has))
    (c.tell_reading.ensures c.at-sensor.result.now c.of-before.ensures) refl refl _ c.self.inside.ticks (c.in-Ok.ensures.range.0 refl) refl
    c.in-Ok.ensures.changes c.in-Ok.ensures.takes _ refl))

pub returns-else-otherwise-clause-notes : goal.returns-else-otherwise-clause-notes
returns-else-otherwise-clause-notes g c =
    let old : SensesView = record { watch = c.self.inside.watch; sensors = c.find_slot.new.self; ticks = c.self.inside.ticks } in
    let is : old ≡ c.args.self.now = asked c.find_slot.ensures.same c.self.view_is in
    let new : SensesView = record { watch = c.forget_changes.new.self; sensors = c.good.new.self; ticks = c.self.inside.ticks } in
    let raw : ℤ = to_z w64 (of_z w64 c.args.raw) in
    let before : Sensor = c.at-sensor.result.now in
    let after : Sensor = good_after before raw c.self.inside.ticks in
    let has = sym c.find_slot.ensures.slot ∙ c.in-Some.is in
    let was = c.at-sensor.ensures c.args.name.now has in
    let same : raw ≡ c.args.raw = search rules in
    let told : c.in-Ok.otherwise ≡ false ↔ ShowSame before after =
    subst (λ (sensor : Option Sensor). IfSome sensor (λ sensor. c.in-Ok.otherwise ≡ false ↔ ShowSame sensor (good_after sensor raw c.self.inside.ticks))) was
    (c.in-Ok.ensures.shown c.args.name.now has) in
    let shown = told.0 c.if-otherwise.false in
    subst (λ (raw : ℤ). Notes c.args.self.now (Read c.args.name.now raw) _ new) same
    (subst (λ (senses : SensesView). Notes senses (Read c.args.name.now raw) _ new) is
    (read_told old new c.args.name.now c.in-Some.slot c.find_slot.result before after c.good.new.self c.find_slot.ensures.sensor
    c.in-Some.is c.find_slot.ensures.slot was
    (sensor_made old.sensors new.sensors c.args.name.now c.in-Some.slot (λ sensor. good_after sensor raw c.self.inside.ticks) before
    c.in-Ok.ensures.changes has was)
    (c.forget_changes.ensures ∙ nothing_told old.watch c.args.name.now before after shown) refl refl _ c.self.inside.ticks
    (c.in-Ok.ensures.range.0 refl) refl c.in-Ok.ensures.changes c.in-Ok.ensures.takes _ refl))

pub returns-in-Err-clause-notes : goal.returns-in-Err-clause-notes
returns-in-Err-clause-notes g c =
    let old : SensesView = record { watch = c.self.inside.watch; sensors = c.find_slot.new.self; ticks = c.self.inside.ticks } in
    let is : old ≡ c.args.self.now = asked c.find_slot.ensures.same c.self.view_is in
    let same : to_z w64 (of_z w64 c.args.raw) ≡ c.args.raw = search rules in
    subst (λ (raw : ℤ). Notes c.args.self.now (Read c.args.name.now raw) c.refuse-in-Err.result c.refuse-in-Err.new.self) same
    (subst (λ (senses : SensesView). Notes senses (Read c.args.name.now (to_z w64 (of_z w64 c.args.raw))) c.refuse-in-Err.result c.refuse-in-Err.new.self)
    is (read_outside old c.refuse-in-Err.new.self c.args.name.now _ c.in-Some.slot c.find_slot.result c.refuse-in-Err.result c.find_slot.ensures.sensor
    c.in-Some.is (λ within. absurd (let no = c.in-Err.ensures.range.1 within in cc)) c.refuse-in-Err.ensures.result
    (c.refuse-in-Err.ensures.left
    ∙ ap (λ (sensors : LiveSensors). quiet_senses (record { watch = c.self.inside.watch; sensors = sensors; ticks = c.self.inside.ticks }))
    c.in-Err.ensures.same)))

pub returns-then-otherwise-clause-health : goal.returns-then-otherwise-clause-health
returns-then-otherwise-clause-health g c = λ held is.
    let has = sym c.find_slot.ensures.slot ∙ c.in-Some.is in
    let same = asked c.find_slot.ensures.same c.self.view_is in
    true_behind_reading c.find_slot.new.self c.good.new.self c.args.name.now c.in-Some.slot _ c.self.inside.ticks c.at-sensor.result.now held
    c.args.health.now _ c.in-Ok.ensures.changes.slots has (c.at-sensor.ensures c.args.name.now has) c.after_reading-known.ensures
    (subst (λ (view : SensesView). IsTrueOf view.sensors.slots held c.args.health.now) (sym same) is)

pub returns-else-otherwise-clause-health : goal.returns-else-otherwise-clause-health
returns-else-otherwise-clause-health g c = λ held is.
    let has = sym c.find_slot.ensures.slot ∙ c.in-Some.is in
    let same = asked c.find_slot.ensures.same c.self.view_is in
    true_behind_reading c.find_slot.new.self c.good.new.self c.args.name.now c.in-Some.slot _ c.self.inside.ticks c.at-sensor.result.now held
    c.args.health.now _ c.in-Ok.ensures.changes.slots has (c.at-sensor.ensures c.args.name.now has) c.after_reading-known.ensures
    (subst (λ (view : SensesView). IsTrueOf view.sensors.slots held c.args.health.now) (sym same) is)

pub returns-in-Err-clause-health : goal.returns-in-Err-clause-health
returns-in-Err-clause-health g c = λ held is.
    let same = asked c.find_slot.ensures.same c.self.view_is in
    let slots : c.refuse-in-Err.new.self.sensors.slots ≡ c.args.self.now.sensors.slots =
    ap (λ (view : SensesView). view.sensors.slots) c.refuse-in-Err.ensures.left
    ∙ (ap (λ (sensors : LiveSensors). sensors.slots) c.in-Err.ensures.same ∙ ap (λ (view : SensesView). view.sensors.slots) same) in
    subst (λ (sensors : List (Option Sensor)). IsTrueOf sensors held c.args.health.now) (sym slots) is
