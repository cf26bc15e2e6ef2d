use Rattle.std.proofs.Common.{◌≡◌, ◌≤◌, ℕ, false, List, drop}
use Rattle.live_sensors.specs.Sensors.{sensor_in, slot_of}
use Rattle.live_sensors.specs.Items.{dropped, has_sensor}
use Rattle.live_sensors.proofs.sensors.LiveSensors.drop_all.Given as goal

abbrev pub invariant-loop-item : goal.invariant-loop-item
invariant-loop-item l = record {
  sensors : (name : List ℕ) → dropped (drop l.item-index l.gone) name (sensor_in l.self name) ≡ dropped l.gone name (sensor_in l.fn.self name);
  slots : (name : List ℕ) → has_sensor name l.gone ≡ false → slot_of l.self name ≡ slot_of l.fn.self name;
  room : l.fn.self.room ≤ l.self.room;
}
