-- Sensors by slot.
use Rattle.std.specs.Prelude.{◌≡◌, ◌≢◌, ℕ, List, Option, None, IsSome, slice_index_or}
use Rattle.sensor_core.specs.Sensors.{Sensor}

-- what is in the slots from 0 on, and for how many more sensors there is room
pub record Table : Type 0 where
  pub slots : List (Option Sensor)
  pub spare : ℕ

-- the sensor in a slot, if there is one
abbrev pub sensor_at : Table → ℕ → Option Sensor
sensor_at table slot = slice_index_or table.slots slot None

-- there is a sensor in the slot
abbrev pub IsLive : Table → ℕ → Type 0
IsLive table slot = IsSome (sensor_at table slot)

-- the slot has this, and each other slot has what it had
pub record Puts (old new : Table) (slot : ℕ) (sensor : Option Sensor) : Type 0 where
  pub changed : sensor_at new slot ≡ sensor
  pub others : (other : ℕ) → other ≢ slot → sensor_at new other ≡ sensor_at old other
