-- The sensors of live items where these go and come.
use Rattle.std.specs.Prelude.{ℕ, ◌≡◌, false, List, Option, Some, None}
use Rattle.cfg_json.specs.declared.item.Item.{Item}
use Rattle.inventory.specs.Items.{items_less, live}
use Rattle.live_sensors.specs.Items.{has_sensor, settled}
use Rattle.live_sensors.specs.Sensors.{LiveSensors, sensor_in, slot_of}
use Rattle.bmc_report.specs.declared.refusal.Refusal.{Refusal}
use Rattle.bmc_watch.specs.Watches.{WatchView, view_items}

-- each name has the slot that it had, and each slot the sensor
pub record AreKept (before now : LiveSensors) : Type 0 where
  pub names : now.names ≡ before.names
  pub slots : now.slots ≡ before.slots

-- the live items that are here and not there
abbrev pub live_left : WatchView → WatchView → List Item
live_left here there = items_less (live (view_items here)) (live (view_items there))

-- the sensors of live items that go are dropped, and blank ones are started for those that come; each other name keeps its slot
pub record Settles (old new : WatchView) (before now : LiveSensors) : Type 0 where
  pub sensors : (name : List ℕ) → sensor_in now name ≡ settled (live_left old new) (live_left new old) name (sensor_in before name)
  pub slots : (name : List ℕ) → has_sensor name (live_left old new) ≡ false → has_sensor name (live_left new old) ≡ false
      → slot_of now name ≡ slot_of before name

-- the same, unless a step was refused
abbrev pub SettlesUnless : Option Refusal → WatchView → WatchView → LiveSensors → LiveSensors → Type 0
SettlesUnless None old new before now = Settles old new before now
SettlesUnless (Some refusal) old new before now = now ≡ before
