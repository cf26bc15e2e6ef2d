-- What an outcome makes of a sensor as it stands.
use Rattle.std.specs.Prelude.{◌≡◌, ℕ, ◌+◌, min, ℤ, Bool, false, not, ◌&&◌, ◌||◌, List, [], ◌∷◌, Some}
use Rattle.bmc_base.specs.declared.milli.Milli.{Milli}
use Rattle.sensor_core.specs.declared.limit.Limit.{Limit}
use Rattle.sensor_core.specs.declared.setting.SensorSetting.{SensorSetting}
use Rattle.sensor_core.specs.Limits.{is_beyond, is_back}
use Rattle.sensor_core.specs.Settings.{limits_of, value_of}
use Rattle.sensor_core.specs.Sensors.{Outcome, Sensor, sensor_of, failing_losses}

-- an alarm after one more value
abbrev pub alarm_after : Limit → Bool → Milli → Bool
alarm_after limit was_on value = is_beyond limit value || (was_on && not (is_back limit value))

-- the alarms of these limits after one more value
abbrev pub alarms_after : List Limit → List Bool → Milli → List Bool
alarms_after [] alarms value = []
alarms_after (limit ∷ limits) [] value = alarm_after limit false value ∷ alarms_after limits [] value
alarms_after (limit ∷ limits) (was_on ∷ alarms) value = alarm_after limit was_on value ∷ alarms_after limits alarms value

-- after a good reading
abbrev pub good_after : Sensor → ℤ → ℕ → Sensor
good_after sensor raw tick = record {
  setting = sensor.setting;
  value = Some (value_of sensor.setting raw);
  read_at = Some tick;
  lost = 0;
  alarms = alarms_after (limits_of sensor.setting) sensor.alarms (value_of sensor.setting raw);
}

-- after a loss, which leaves the value and the alarms as they are
abbrev pub lost_after : Sensor → Sensor
lost_after sensor = record sensor { lost = min failing_losses (sensor.lost + 1) }

-- where the old sensor is the one that had some outcomes, the new one is that which had this one too
abbrev pub Takes : Sensor → Sensor → Outcome → Type 0
Takes old new outcome =
    (setting : SensorSetting) (outcomes : List Outcome) → old ≡ sensor_of setting outcomes → new ≡ sensor_of setting (outcome ∷ outcomes)
