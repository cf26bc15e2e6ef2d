-- The sensors of items that come and go.
use Rattle.std.specs.Prelude.{ℕ, Bool, ◌&&◌, if◌then◌else◌, bytes_eq, List, [], ◌∷◌, Option, Some, None, option_map}
use Rattle.std.specs.List.{list_any}
use Rattle.std.specs.Option.{is_some, option_or}
use Rattle.sensor_core.specs.declared.setting.SensorSetting.{SensorSetting}
use Rattle.sensor_core.specs.Sensors.{Sensor, sensor_of}
use Rattle.cfg_json.specs.declared.item.Item.{Item}
use Rattle.cfg_json.specs.declared.item.ItemPart.{ItemPart}
use Rattle.cfg_json.specs.declared.item.ItemPart.TheVariants as parts

-- the setting of a sensor; an item of any other type has none
abbrev pub setting_in : ItemPart → Option SensorSetting
setting_in (parts.Sensor sensor) = Some sensor.setting
setting_in parts.Fan = None
setting_in (parts.Zone setting) = None
setting_in (parts.Control control) = None
setting_in (parts.Mux part) = None
setting_in parts.Passive = None

-- whether an item is a sensor of this name
abbrev pub is_sensor : List ℕ → Item → Bool
is_sensor name item = is_some (setting_in item.part) && bytes_eq item.name name

-- whether one of some items is
abbrev pub has_sensor : List ℕ → List Item → Bool
has_sensor name items = list_any (is_sensor name) items

-- the sensor of a name, after that of an item is dropped
abbrev pub dropped_one : Item → List ℕ → Option Sensor → Option Sensor
dropped_one item name sensor = if is_sensor name item then None else sensor

-- and after those of these items are dropped
abbrev pub dropped : List Item → List ℕ → Option Sensor → Option Sensor
dropped [] name sensor = sensor
dropped (item ∷ items) name sensor = dropped items name (dropped_one item name sensor)

-- the blank sensor of an item, which had no reading and no loss; only a sensor item has one
abbrev pub blank_in : ItemPart → Option Sensor
blank_in part = option_map (λ setting. sensor_of setting []) (setting_in part)

-- the sensor of a name, after a blank one is started for an item
abbrev pub started_one : Item → List ℕ → Option Sensor → Option Sensor
started_one item name sensor = if bytes_eq item.name name then option_or (blank_in item.part) sensor else sensor

-- and after blank ones are started for these items
abbrev pub started : List Item → List ℕ → Option Sensor → Option Sensor
started [] name sensor = sensor
started (item ∷ items) name sensor = started items name (started_one item name sensor)

-- the sensor of a name, after those of items that are gone are dropped and blank ones are started for new items
abbrev pub settled : List Item → List Item → List ℕ → Option Sensor → Option Sensor
settled gone new name sensor = started new name (dropped gone name sensor)
