use Rattle.std.proofs.Common.{◌≡◌, ◌+◌, ◌≤◌, ◌++◌, take, vec_capacity, vec_len}
use Rattle.std.specs.List.{flat_map, enumerate_from}
use Rattle.sensor_core.specs.Sensors.{Sensor as SensorView}
use Rattle.bmc_machine.specs.Changes.{alarm_change}
use Rattle.bmc_watch.specs.Readings.{Shows}
use Rattle.bmc_watch.proofs.readings.append_alarms.Given as goal

abbrev pub invariant-loop-position : goal.invariant-loop-position
invariant-loop-position l = record {
  items : (sensor : SensorView) → Shows l.before sensor
      → l.changes.items ≡ l.fn.changes.items
      ++ flat_map (alarm_change l.name sensor l.after) (enumerate_from 0 (take l.position l.limit-items));
  len : vec_len l.changes ≤ vec_len l.fn.changes + l.position;
  capacity : vec_capacity l.changes ≡ vec_capacity l.fn.changes;
}
