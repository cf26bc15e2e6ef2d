-- The live sensors, each under its name.
use Rattle.std.specs.Prelude.{◌≡◌, ◌≢◌, ℕ, bytes_eq, if◌then◌else◌, List, Option, Some, None, IsSome, IfSome, option_map, option_and_then, slice_index_or}
use Rattle.std.specs.Map.{lookup}
use Rattle.sensor_core.specs.Sensors.{Sensor}

-- the slots of the names, what is in the slots from 0 on, and how many more sensors can be started without memory
pub record LiveSensors : Type 0 where
  pub names : List (List ℕ × ℕ)
  pub slots : List (Option Sensor)
  pub room : ℕ

-- the slot of a name, if it has one
abbrev pub slot_of : LiveSensors → List ℕ → Option ℕ
slot_of sensors name = lookup (bytes_eq name) sensors.names

-- the sensor of a name, if it has one
abbrev pub sensor_in : LiveSensors → List ℕ → Option Sensor
sensor_in sensors name = option_and_then (λ slot. slice_index_or sensors.slots slot None) (slot_of sensors name)

-- a name has this slot
pub record ContainsSlot (names : List (List ℕ × ℕ)) (slot : ℕ) : Type 0 where
  pub name : List ℕ
  pub has : lookup (bytes_eq name) names ≡ Some slot

-- each name has a slot of its own with a sensor, and no other slot has one
pub record IsTied (names : List (List ℕ × ℕ)) (slots : List (Option Sensor)) : Type 0 where
  pub filled : (name : List ℕ) (slot : ℕ) → lookup (bytes_eq name) names ≡ Some slot → IsSome (slice_index_or slots slot None)
  pub apart : (name other : List ℕ) (slot : ℕ) → lookup (bytes_eq name) names ≡ Some slot → lookup (bytes_eq other) names ≡ Some slot → name ≡ other
  pub named : (slot : ℕ) → IsSome (slice_index_or slots slot None) → ContainsSlot names slot

-- this holds of the sensor of each name that has the slot
abbrev pub AtSlot : LiveSensors → ℕ → (Sensor → Type 0) → Type 0
AtSlot sensors slot P = (name : List ℕ) → slot_of sensors name ≡ Some slot → IfSome (sensor_in sensors name) P

-- the sensor in the slot changes so, and what is in each other slot stays
pub record ChangesSlot (old new : List (Option Sensor)) (slot : ℕ) (change : Sensor → Sensor) : Type 0 where
  pub changed : slice_index_or new slot None ≡ option_map change (slice_index_or old slot None)
  pub others : (other : ℕ) → other ≢ slot → slice_index_or new other None ≡ slice_index_or old other None

-- the sensor of the name that has the slot changes so, and that of each other name stays; so do the slots of the names, and the room
pub record Changes (old new : LiveSensors) (slot : ℕ) (change : Sensor → Sensor) : Type 0 where
  pub names : new.names ≡ old.names
  pub room : new.room ≡ old.room
  pub slots : ChangesSlot old.slots new.slots slot change
  pub sensors : (name : List ℕ) → slot_of old name ≡ Some slot → (other : List ℕ)
      → sensor_in new other ≡ (if bytes_eq name other then option_map change (sensor_in old other) else sensor_in old other)
