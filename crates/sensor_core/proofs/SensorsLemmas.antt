-- A sensor, one outcome on.
use Rattle.std.proofs.Common.{◌≡◌, ℕ, ℤ, Bool, List, ◌∷◌, Some, ap, ◌∙◌, subst}
use Rattle.sensor_core.specs.declared.setting.SensorSetting.{SensorSetting}
use Rattle.sensor_core.specs.Settings.{IsValidSetting, limits_of, value_of}
use Rattle.sensor_core.specs.Sensors.{Outcome, Good, Sensor, sensor_of, values}
use Rattle.sensor_core.specs.Updates.{good_after, Takes}
use Rattle.sensor_core.proofs.AlarmsLemmas.{alarms_more}

-- what a good reading makes of the sensor that had some outcomes
pub good_after-sensor_of : (setting : SensorSetting) (outcomes : List Outcome) (raw : ℤ) (tick : ℕ) → IsValidSetting setting
    → good_after (sensor_of setting outcomes) raw tick ≡ sensor_of setting (Good raw tick ∷ outcomes)
good_after-sensor_of setting outcomes raw tick valid =
    ap (λ (on : List Bool). record { setting = setting; value = Some (value_of setting raw); read_at = Some tick; lost = 0; alarms = on })
    (alarms_more (limits_of setting) (value_of setting raw) (values setting outcomes) valid.limits)

pub good_takes : (old : Sensor) (raw : ℤ) (tick : ℕ) → IsValidSetting old.setting → Takes old (good_after old raw tick) (Good raw tick)
good_takes old raw tick valid setting outcomes e =
    ap (λ (sensor : Sensor). good_after sensor raw tick) e
    ∙ good_after-sensor_of setting outcomes raw tick (subst IsValidSetting (ap (λ (sensor : Sensor). sensor.setting) e) valid)
