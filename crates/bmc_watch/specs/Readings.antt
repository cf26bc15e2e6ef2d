-- What is remembered of a sensor while it takes a reading.
use Rattle.std.specs.Prelude.{ℕ, ◌≡◌}
use Rattle.sensor_core.specs.Sensors.{Sensor, has_failed, all_alarms}
use Rattle.bmc_watch.specs.declared.readings.Glimpse.{Glimpse}

-- the most changes of a step that comes without an event of the bus: of a reading there are at most 9, and of a tick at most 160
abbrev pub most_changes : ℕ
most_changes = 256

-- a glimpse is of a sensor that shows this
pub record Shows (glimpse : Glimpse) (sensor : Sensor) : Type 0 where
  pub failed : glimpse.failed ≡ has_failed sensor
  pub alarms : glimpse.alarms ≡ all_alarms sensor
