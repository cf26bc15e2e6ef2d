use Rattle.std.proofs.Common.{◌≡◌, ◌∙◌, ℕ, min, ℤ, Bool, false, IfOk, OnOk, option_map, w64, of_z, to_z, refl, ap, subst}
use Rattle.std.specs.Prelude.{◌↔◌}
use Rattle.std.proofs.lemmas.Int.{to_z-of_z}
use Rattle.std.proofs.lemmas.Result.{on_ok_weaker}
use Rattle.indexmap.specs.IndexMap.{spare}
use Rattle.sensor_core.specs.Sensors.{Sensor, Good, ShowSame}
use Rattle.sensor_core.specs.Updates.{good_after, Takes}
use Rattle.live_sensors.specs.Sensors.{LiveSensors, AtSlot}
use Rattle.live_sensors.proofs.SlotsLemmas.{at, at_names, changes}
use Rattle.live_sensors.proofs.sensors.LiveSensors.good.Goals as goal
use Rattle.live_sensors.proofs.sensors.LiveSensors.good.Goals.{After-good_at}

-- the number comes to the table as it is
raw_is : (c : After-good_at) → to_z w64 (of_z w64 c.args.raw) ≡ c.args.raw
raw_is c = to_z-of_z w64 c.args.raw c.ranges.raw

pub returns-clause-changes : goal.returns-clause-changes
returns-clause-changes c =
    let old = at c.self.inside.table.slots c.args.slot in
    on_ok_weaker c.good_at.result (λ puts.
    changes _ _ _ _ _ c.self.view_is c.self.invariant refl (ap (λ (n : ℕ). min n (spare c.self.inside.slots)) c.good_at.ensures.spare)
    (puts.changed ∙ ap (λ (raw : ℤ). option_map (λ (sensor : Sensor). good_after sensor raw c.args.tick) old) (raw_is c)) puts.others)
    c.good_at.ensures.puts

pub returns-clause-takes : goal.returns-clause-takes
returns-clause-takes c =
    let takes : ℤ → Sensor → Type 0 = λ raw sensor. Takes sensor (good_after sensor raw c.args.tick) (Good raw c.args.tick) in
    let passed : ℤ = to_z w64 (of_z w64 c.args.raw) in
    subst (λ (raw : ℤ). OnOk c.good_at.result (AtSlot c.args.self.now c.args.slot (takes raw))) (raw_is c)
    (subst (λ (sensors : LiveSensors). OnOk c.good_at.result (AtSlot sensors c.args.slot (takes passed))) c.self.view_is
    (at_names c.good_at.result c.self.inside.slots.entries c.self.inside.table.slots c.args.slot (λ _. takes passed) c.good_at.ensures.takes))

pub returns-clause-shown : goal.returns-clause-shown
returns-clause-shown c =
    let shown : ℤ → Bool → Sensor → Type 0 = λ raw otherwise sensor. otherwise ≡ false ↔ ShowSame sensor (good_after sensor raw c.args.tick) in
    let passed : ℤ = to_z w64 (of_z w64 c.args.raw) in
    subst (λ (raw : ℤ). IfOk c.good_at.result (λ otherwise. AtSlot c.args.self.now c.args.slot (shown raw otherwise))) (raw_is c)
    (subst (λ (sensors : LiveSensors). IfOk c.good_at.result (λ otherwise. AtSlot sensors c.args.slot (shown passed otherwise))) c.self.view_is
    (at_names c.good_at.result c.self.inside.slots.entries c.self.inside.table.slots c.args.slot (shown passed) c.good_at.ensures.shown))
