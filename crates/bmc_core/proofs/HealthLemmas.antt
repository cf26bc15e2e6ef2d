-- What is known of the inputs of controllers stays true at ticks and at good readings.
use Rattle.std.proofs.Common.{◌≡◌, ◌∙◌, ℕ, ◌+◌, ◌-◌, ◌==◌, ◌≤◌, ℤ, ◌||◌, ◌&&◌, Bool, true, false, not, nat_lt, nat_eq, min, List, [], ◌∷◌, map}
use Rattle.std.proofs.Common.{if◌then◌else◌, Option, Some, None, option_map, option_and_then, is_none, slice_index_or, ap, refl, sym, subst, arith}
use Rattle.std.proofs.Math.Bool.{and-true}
use Rattle.std.proofs.Math.Nat.{min-le_left, min-le_right}
use Rattle.std.proofs.lemmas.Bool.{false≢true, true≢false, leb-true, le-ltb, eqb-true, eq-eqb, or_from, or_parts}
use Rattle.std.proofs.lemmas.Option.{same_Some}
use Rattle.std.specs.List.{list_any}
use Rattle.bmc_base.specs.Counts.{last_count}
use Rattle.live_sensors.specs.Sensors.{ChangesSlot, LiveSensors, sensor_in, slot_of}
use Rattle.sensor_core.specs.Updates.{good_after, lost_after}
use Rattle.fan_zone.proofs.Taken.{any_mapped}
use Rattle.bmc_core.specs.declared.input_health.InputHealth.{InputHealth}
use Rattle.bmc_core.specs.declared.input_health.InputHealth.TheVariants as known
use Rattle.bmc_core.specs.Health.{IsTrueOf, is_good_at, good_until, health_after_reading, health_after_loss}
use Rattle.fan_zone.specs.declared.held.Held.{Held}
use Rattle.fan_zone.specs.Inputs.{has_bad_input, is_bad_input, is_bad_sensor, sensor_of}
use Rattle.fan_zone.specs.Steady.{has_bad_input_now}
use Rattle.fan_zone.specs.Ticks.{aged}
use Rattle.sensor_core.specs.Sensors.{Sensor, has_failed, is_bad, is_stale}

-- where it is known that none is bad, none is
pub good_inputs : (slots : List (Option Sensor)) (held : List Held) (health : InputHealth) (now : ℕ) → IsTrueOf slots held health → is_good_at health now ≡ true
    → has_bad_input_now slots now held ≡ false
good_inputs slots held known.Unknown now is e = absurd (false≢true e)
good_inputs slots held known.Unasked now is e = absurd (false≢true e)
good_inputs slots held known.Bad now is e = absurd (false≢true e)
good_inputs slots held (known.GoodUntil last) now is e = is now (leb-true now last e)

bad_aged : (slots : List (Option Sensor)) (now : ℕ) (held : List Held) → has_bad_input_now slots now (map aged held) ≡ has_bad_input_now slots now held
bad_aged slots now [] = refl
bad_aged slots now (one ∷ more) = ap (λ (bad : Bool). has_bad_input slots now one.inputs || bad) (bad_aged slots now more)

-- a tick leaves the inputs of all controllers
pub true_aged : (slots : List (Option Sensor)) (held : List Held) (health : InputHealth) → IsTrueOf slots held health → IsTrueOf slots (map aged held) health
true_aged slots held known.Unknown is = tt
true_aged slots held known.Unasked is = tt
true_aged slots held known.Bad is = tt
true_aged slots held (known.GoodUntil last) is = λ later le. bad_aged slots later held ∙ is later le

-- it stays true where inputs are bad at the same ticks
pub true_alike : (before now : List (Option Sensor)) (held : List Held) (health : InputHealth)
    → ((later : ℕ) → has_bad_input_now now later held ≡ has_bad_input_now before later held) → IsTrueOf before held health → IsTrueOf now held health
true_alike before now held known.Unknown alike is = tt
true_alike before now held known.Unasked alike is = tt
true_alike before now held known.Bad alike is = tt
true_alike before now held (known.GoodUntil last) alike is = λ later le. alike later ∙ is later le

-- ---- a good reading

-- a sensor that was read is not stale as long as its timeout is
young : (timeout tick later : ℕ) → later ≤ good_until timeout tick → (not (timeout == 0) && nat_lt timeout (later - tick)) ≡ false
young timeout tick later le = of (timeout == 0) le
  where
    of : (never : Bool) → later ≤ (if never then last_count else min (tick + timeout) last_count) → (not never && nat_lt timeout (later - tick)) ≡ false
    of true within = refl
    of false within = le-ltb timeout (later - tick) (omega (arith, within, min-le_left (tick + timeout) last_count))

read_good : (sensor : Sensor) (raw : ℤ) (tick later : ℕ) → later ≤ good_until sensor.setting.timeout tick → is_bad (good_after sensor raw tick) later ≡ false
read_good sensor raw tick later le = young sensor.setting.timeout tick later le

changed_good : (change : Sensor → Sensor) (later : ℕ) (was : Option Sensor)
    → ((sensor : Sensor) → was ≡ Some sensor → is_bad sensor later ≡ false → is_bad (change sensor) later ≡ false)
    → is_bad_sensor later was ≡ false → is_bad_sensor later (option_map change was) ≡ false
changed_good change later None good is = is
changed_good change later (Some sensor) good is = good sensor refl is

-- where the sensor in a slot is not made bad, no input is
input_stays : (old new : List (Option Sensor)) (slot : ℕ) (change : Sensor → Sensor) (later : ℕ) → ChangesSlot old new slot change
    → ((sensor : Sensor) → slice_index_or old slot None ≡ Some sensor → is_bad sensor later ≡ false → is_bad (change sensor) later ≡ false)
    → (input : Option ℕ) → is_bad_input old later input ≡ false → is_bad_input new later input ≡ false
input_stays old new slot change later changes good None is = is
input_stays old new slot change later changes good (Some other) is = of (nat_eq other slot) refl
  where
    of : (same : Bool) → nat_eq other slot ≡ same → is_bad_input new later (Some other) ≡ false
    of true e =
        let at : other ≡ slot = eqb-true other slot e in
        let was : is_bad_sensor later (slice_index_or old slot None) ≡ false =
        subst (λ (n : ℕ). is_bad_sensor later (slice_index_or old n None) ≡ false) at is in
        subst (λ (n : ℕ). is_bad_sensor later (slice_index_or new n None) ≡ false) (sym at)
        (ap (is_bad_sensor later) changes.changed ∙ changed_good change later (slice_index_or old slot None) good was)
    of false e = ap (is_bad_sensor later) (changes.others other (λ same. true≢false (sym (eq-eqb other slot same) ∙ e))) ∙ is

none_still : {X : Type 0} (test other : X → Bool) → ((x : X) → test x ≡ false → other x ≡ false) → (xs : List X) → list_any test xs ≡ false
    → list_any other xs ≡ false
none_still test other still [] none = refl
none_still test other still (x ∷ xs) none =
    let parts = or_parts (test x) (list_any test xs) none in
    or_from (other x) (list_any other xs) (still x parts.0) (none_still test other still xs parts.1)

inputs_stay : (old new : List (Option Sensor)) (later : ℕ)
    → ((input : Option ℕ) → is_bad_input old later input ≡ false → is_bad_input new later input ≡ false)
    → (inputs : List (Option ℕ)) → has_bad_input old later inputs ≡ false → has_bad_input new later inputs ≡ false
inputs_stay old new later still inputs none = any_mapped (is_bad_sensor later) (sensor_of new) inputs
    ∙ none_still (is_bad_input old later) (is_bad_input new later) still inputs
    (sym (any_mapped (is_bad_sensor later) (sensor_of old) inputs) ∙ none)

held_stay : (old new : List (Option Sensor)) (later : ℕ)
    → ((input : Option ℕ) → is_bad_input old later input ≡ false → is_bad_input new later input ≡ false)
    → (held : List Held) → has_bad_input_now old later held ≡ false → has_bad_input_now new later held ≡ false
held_stay old new later still held none =
    none_still (λ (one : Held). has_bad_input old later one.inputs) (λ (one : Held). has_bad_input new later one.inputs)
    (λ one. inputs_stay old new later still one.inputs) held none

-- a good reading of the sensor in a slot
pub true_after_reading : (old new : List (Option Sensor)) (slot : ℕ) (raw : ℤ) (tick : ℕ) (sensor : Sensor) (held : List Held) (health : InputHealth)
    → ChangesSlot old new slot (λ one. good_after one raw tick) → slice_index_or old slot None ≡ Some sensor → IsTrueOf old held health
    → IsTrueOf new held (health_after_reading health sensor tick)
true_after_reading old new slot raw tick sensor held known.Unknown changes at is = tt
true_after_reading old new slot raw tick sensor held known.Unasked changes at is = tt
true_after_reading old new slot raw tick sensor held known.Bad changes at is = unsure (is_bad sensor tick)
  where
    unsure : (was_bad : Bool) → IsTrueOf new held (if was_bad then known.Unasked else known.Bad)
    unsure true = tt
    unsure false = tt
true_after_reading old new slot raw tick sensor held (known.GoodUntil last) changes at is = λ later le.
    let until = good_until sensor.setting.timeout tick in
    let first : later ≤ last = omega (arith, le, min-le_left last until) in
    let second : later ≤ until = omega (arith, le, min-le_right last until) in
    held_stay old new later
    (input_stays old new slot (λ one. good_after one raw tick) later changes
    (λ one has was. subst (λ (it : Sensor). is_bad (good_after it raw tick) later ≡ false) (same_Some sensor one (sym at ∙ has))
    (read_good sensor raw tick later second)))
    held (is later first)

-- ---- a loss

-- where it does not make the sensor fail, a sensor that is not bad stays so
lost_good : (sensor : Sensor) (later : ℕ) → (has_failed (lost_after sensor) && not (has_failed sensor)) ≡ false → is_bad sensor later ≡ false
    → is_bad (lost_after sensor) later ≡ false
lost_good sensor later stays good =
    let working : has_failed sensor ≡ false =
    (or_parts (is_none sensor.value) (has_failed sensor) (or_parts (is_none sensor.value || has_failed sensor) (is_stale sensor later) good).0).1 in
    let works : has_failed (lost_after sensor) ≡ false =
    sym (and-true (has_failed (lost_after sensor))) ∙ (ap (λ (failed : Bool). has_failed (lost_after sensor) && not failed) (sym working) ∙ stays) in
    ap (λ (failed : Bool). is_none sensor.value || failed || is_stale sensor later) (works ∙ sym working) ∙ good

-- a loss of the sensor in a slot
pub true_after_loss : (old new : List (Option Sensor)) (slot : ℕ) (was : Sensor) (held : List Held) (health : InputHealth)
    → ChangesSlot old new slot lost_after → slice_index_or old slot None ≡ Some was → IsTrueOf old held health
    → IsTrueOf new held (health_after_loss health (has_failed was) (lost_after was))
true_after_loss old new slot was held health changes at is = of (has_failed (lost_after was) && not (has_failed was)) refl
  where
    kept : (known : InputHealth) → (has_failed (lost_after was) && not (has_failed was)) ≡ false → IsTrueOf old held known → IsTrueOf new held known
    kept known.Unknown stays true_of = tt
    kept known.Unasked stays true_of = tt
    kept known.Bad stays true_of = tt
    kept (known.GoodUntil last) stays true_of = λ later le.
        held_stay old new later
        (input_stays old new slot lost_after later changes
        (λ one has. subst (λ (it : Sensor). is_bad it later ≡ false → is_bad (lost_after it) later ≡ false) (same_Some was one (sym at ∙ has))
        (lost_good was later stays)))
        held (true_of later le)

    of : (fails : Bool) → (has_failed (lost_after was) && not (has_failed was)) ≡ fails → IsTrueOf new held (if fails then known.Unknown else health)
    of true e = tt
    of false e = kept health e is

-- the sensor of a name stands in the slot of the name
pub sensor_at_slot : (sensors : LiveSensors) (name : List ℕ) (slot : ℕ) (sensor : Sensor) → slot_of sensors name ≡ Some slot
    → sensor_in sensors name ≡ Some sensor
    → slice_index_or sensors.slots slot None ≡ Some sensor
sensor_at_slot sensors name slot sensor has is =
    sym (ap (λ (its : Option ℕ). option_and_then (λ (n : ℕ). slice_index_or sensors.slots n None) its) has) ∙ is

-- what is known behind a reading is true, where the sensor is that of a name
pub true_behind_reading : (old new : LiveSensors) (name : List ℕ) (slot : ℕ) (raw : ℤ) (tick : ℕ) (sensor : Sensor) (held : List Held)
    (health known : InputHealth) → ChangesSlot old.slots new.slots slot (λ one. good_after one raw tick) → slot_of old name ≡ Some slot
    → sensor_in old name ≡ Some sensor → known ≡ health_after_reading health sensor tick → IsTrueOf old.slots held health → IsTrueOf new.slots held known
true_behind_reading old new name slot raw tick sensor held health known changes has at is was =
    subst (λ (it : InputHealth). IsTrueOf new.slots held it) (sym is)
    (true_after_reading old.slots new.slots slot raw tick sensor held health changes (sensor_at_slot old name slot sensor has at) was)
