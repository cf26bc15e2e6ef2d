use Rattle.std.proofs.Common.{◌≡◌, ◌≤◌, ◌-◌, ℕ, false, List, length, drop}
use Rattle.live_sensors.specs.Sensors.{sensor_in, slot_of}
use Rattle.live_sensors.specs.Items.{has_sensor, started}
use Rattle.live_sensors.proofs.sensors.LiveSensors.start_all.Given as goal

abbrev pub invariant-loop-item : goal.invariant-loop-item
invariant-loop-item l = record {
  sensors : (name : List ℕ) → started (drop l.item-index l.new) name (sensor_in l.self name) ≡ started l.new name (sensor_in l.fn.self name);
  slots : (name : List ℕ) → has_sensor name l.new ≡ false → slot_of l.self name ≡ slot_of l.fn.self name;
  room : length l.new - l.item-index ≤ l.self.room;
}
