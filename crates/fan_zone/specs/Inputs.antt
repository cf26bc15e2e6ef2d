-- What a controller reads of its inputs at a tick. Sensors stand in slots, and an input is the slot of the sensor that holds its name, if one does.
use Rattle.std.specs.Prelude.{ℕ, ℤ, pos, int_lt, Bool, true, if◌then◌else◌, List, [], ◌∷◌, filter, map, Option, Some, None, slice_index_or}
use Rattle.std.specs.Int.{int_max, int_min}
use Rattle.std.specs.List.{fold, list_any}
use Rattle.bmc_base.specs.declared.milli.Milli.{Milli}
use Rattle.sensor_core.specs.Sensors.{Sensor, is_bad}
use Rattle.fan_zone.specs.declared.held.Role.{Role}
use Rattle.fan_zone.specs.declared.held.Role.TheVariants.{Fan, Temp, Margin}

-- the sensor of an input
abbrev pub sensor_of : List (Option Sensor) → Option ℕ → Option Sensor
sensor_of slots None = None
sensor_of slots (Some slot) = slice_index_or slots slot None

-- bad: there is no sensor, or it had no good reading yet, failed, or is stale
abbrev pub is_bad_sensor : ℕ → Option Sensor → Bool
is_bad_sensor now None = true
is_bad_sensor now (Some sensor) = is_bad sensor now

-- whether one of some sensors is bad
abbrev pub has_bad : ℕ → List (Option Sensor) → Bool
has_bad now sensors = list_any (is_bad_sensor now) sensors

-- whether an input is bad
abbrev pub is_bad_input : List (Option Sensor) → ℕ → Option ℕ → Bool
is_bad_input slots now input = is_bad_sensor now (sensor_of slots input)

-- whether one of some inputs is bad
abbrev pub has_bad_input : List (Option Sensor) → ℕ → List (Option ℕ) → Bool
has_bad_input slots now inputs = has_bad now (map (sensor_of slots) inputs)

abbrev pub value_of : Option Sensor → Option Milli
value_of None = None
value_of (Some sensor) = sensor.value

-- the value of a sensor that is not bad
abbrev pub good_value : ℕ → Option Sensor → Option Milli
good_value now sensor = if is_bad_sensor now sensor then None else value_of sensor

abbrev pub with_value : Option Milli → List ℤ → List ℤ
with_value None values = values
with_value (Some value) values = value.0 ∷ values

-- the good values of some sensors, in their order
abbrev pub goods : ℕ → List (Option Sensor) → List ℤ
goods now [] = []
goods now (sensor ∷ sensors) = with_value (good_value now sensor) (goods now sensors)

-- the value of an input that is not bad
abbrev pub good_input : List (Option Sensor) → ℕ → Option ℕ → Option Milli
good_input slots now input = good_value now (sensor_of slots input)

-- the good values, in the order of the inputs
abbrev pub good_inputs : List (Option Sensor) → ℕ → List (Option ℕ) → List ℤ
good_inputs slots now inputs = goods now (map (sensor_of slots) inputs)

-- the greatest or the least of some numbers, none where there are none
abbrev pub extreme : (ℤ → ℤ → ℤ) → List ℤ → Option ℤ
extreme pick [] = None
extreme pick (value ∷ values) = Some (fold pick value values)

abbrev pub greatest : List ℤ → Option ℤ
greatest values = extreme int_max values

abbrev pub least : List ℤ → Option ℤ
least values = extreme int_min values

abbrev pub is_positive : ℤ → Bool
is_positive value = int_lt (pos 0) value

-- the input of a step, from the good values: the least positive one for a fan controller, the greatest for a temperature, the least for a margin
abbrev pub input_of : Role → List ℤ → Option ℤ
input_of Fan values = least (filter is_positive values)
input_of (Temp setpoint) values = greatest values
input_of (Margin setpoint) values = least values
