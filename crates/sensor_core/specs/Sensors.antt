-- What a sensor shows of its outcomes, which are searched as a whole. The newest outcome is first.
use Rattle.std.specs.Prelude.{◌≡◌, ℕ, ◌-◌, ◌==◌, min, nat_lt, ℤ, Bool, true, false, not, ◌&&◌, ◌||◌, List, [], ◌∷◌, ◌++◌, map, replicate, slice_index_or}
use Rattle.std.specs.Prelude.{Option, Some, None, is_none, option_map}
use Rattle.std.specs.Option.{option_map_or}
use Rattle.std.specs.List.{filter_map, prefix_len}
use Rattle.bmc_base.specs.declared.milli.Milli.{Milli}
use Rattle.sensor_core.specs.declared.setting.SensorSetting.{SensorSetting}
use Rattle.sensor_core.specs.Limits.{is_on}
use Rattle.sensor_core.specs.Settings.{limits_of, value_of, most_limits}

-- what came of asking a sensor: a good reading, with its raw number and its tick, or a loss
pub data Outcome : Type 0 where
  Good : ℤ → ℕ → Outcome
  Lost : Outcome

-- the value of a good reading
abbrev pub value_in : SensorSetting → Outcome → Option Milli
value_in setting (Good raw tick) = Some (value_of setting raw)
value_in setting Lost = None

-- the tick of a good reading
abbrev pub tick_in : Outcome → Option ℕ
tick_in (Good raw tick) = Some tick
tick_in Lost = None

abbrev pub is_lost : Outcome → Bool
is_lost (Good raw tick) = false
is_lost Lost = true

-- the values of the good readings
abbrev pub values : SensorSetting → List Outcome → List Milli
values setting outcomes = filter_map (value_in setting) outcomes

-- the first of a list
abbrev pub newest : {X : Type 0} → List X → Option X
newest [] = None
newest (x ∷ xs) = Some x

-- the value of the last good reading
abbrev pub last_value : SensorSetting → List Outcome → Option Milli
last_value setting outcomes = newest (values setting outcomes)

-- the tick of the last good reading
abbrev pub last_tick : List Outcome → Option ℕ
last_tick outcomes = newest (filter_map tick_in outcomes)

-- how many losses in a row make a sensor fail
abbrev pub failing_losses : ℕ
failing_losses = 5

-- how many losses came after the last good reading, of which no more are counted than make it fail
abbrev pub losses : List Outcome → ℕ
losses outcomes = min failing_losses (prefix_len is_lost outcomes)

-- for each limit in use, whether its alarm is on
abbrev pub alarms_of : SensorSetting → List Milli → List Bool
alarms_of setting shown = map (λ limit. is_on limit shown) (limits_of setting)

-- a sensor as it is seen
pub record Sensor : Type 0 where
  pub setting : SensorSetting
  pub value : Option Milli
  pub read_at : Option ℕ
  pub lost : ℕ
  pub alarms : List Bool

-- the sensor with this setting that had these outcomes
abbrev pub sensor_of : SensorSetting → List Outcome → Sensor
sensor_of setting outcomes = record {
  setting = setting;
  value = last_value setting outcomes;
  read_at = last_tick outcomes;
  lost = losses outcomes;
  alarms = alarms_of setting (values setting outcomes);
}

-- whether so many losses came in a row that the sensor failed
abbrev pub has_failed : Sensor → Bool
has_failed sensor = sensor.lost == failing_losses

-- how many ticks ago the last good reading was, at this tick
abbrev pub age_at : Sensor → ℕ → Option ℕ
age_at sensor now = option_map (λ at. now - at) sensor.read_at

-- whether the last good reading is older than the timeout, where there is one
abbrev pub is_stale : Sensor → ℕ → Bool
is_stale sensor now = not (sensor.setting.timeout == 0) && option_map_or (nat_lt sensor.setting.timeout) (age_at sensor now) false

-- whether the sensor is no good input at this tick
abbrev pub is_bad : Sensor → ℕ → Bool
is_bad sensor now = is_none sensor.value || has_failed sensor || is_stale sensor now

-- whether the alarm at a position is on; there is none behind the limits in use
abbrev pub has_alarm : Sensor → ℕ → Bool
has_alarm sensor position = slice_index_or sensor.alarms position false

-- the alarms at all positions that a limit may have
abbrev pub all_alarms : Sensor → List Bool
all_alarms sensor = sensor.alarms ++ replicate (most_limits - sensor.setting.count) false

-- two sensors show the same: whether they failed, and which alarms are on
pub record ShowSame (before after : Sensor) : Type 0 where
  pub failed : has_failed before ≡ has_failed after
  pub alarms : all_alarms before ≡ all_alarms after
