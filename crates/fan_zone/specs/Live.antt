-- What zones read of the live items: the controllers, the zones and the fans, each in item order.
use Rattle.std.specs.Prelude.{ℕ, ◌==◌, Bool, true, false, ◌&&◌, List, [], ◌∷◌, map}
use Rattle.std.specs.Borrow.{Bor}
use Rattle.std.specs.Option.{option_eq}
use Rattle.bmc_base.specs.Places.{place_eq}
use Rattle.cfg_json.specs.declared.expose.ZoneSetting.{ZoneSetting}
use Rattle.cfg_json.specs.declared.item.ControlItem.{ControlItem}
use Rattle.cfg_json.specs.declared.item.Item.{Item}
use Rattle.cfg_json.specs.declared.item.ItemId.{ItemId}
use Rattle.cfg_json.specs.declared.item.ItemPart.{ItemPart}
use Rattle.cfg_json.specs.declared.item.ItemPart.TheVariants as parts

-- the items behind some references
abbrev pub items_of : List (Bor Item) → List Item
items_of refs = map (λ ref. ref.now) refs

-- whether an item acts in zones: it is a zone, a fan or a controller
abbrev pub acts : ItemPart → Bool
acts (parts.Zone setting) = true
acts parts.Fan = true
acts (parts.Control item) = true
acts (parts.Sensor sensor) = false
acts (parts.Mux part) = false
acts parts.Passive = false

-- whether two ids are one
abbrev pub id_eq : ItemId → ItemId → Bool
id_eq id other = id.config == other.config && option_eq place_eq id.place other.place && id.expose == other.expose

-- a controller
pub record LiveControl : Type 0 where
  pub id : ItemId
  pub item : ControlItem

abbrev pub id_of : LiveControl → ItemId
id_of control = control.id

abbrev pub with_control : ItemId → ItemPart → List LiveControl → List LiveControl
with_control id (parts.Control item) more = record { id = id; item = item } ∷ more
with_control id (parts.Sensor sensor) more = more
with_control id parts.Fan more = more
with_control id (parts.Zone setting) more = more
with_control id (parts.Mux part) more = more
with_control id parts.Passive more = more

-- the controllers of some items
abbrev pub controls : List Item → List LiveControl
controls [] = []
controls (item ∷ more) = with_control item.id item.part (controls more)

-- a zone
pub record LiveZone : Type 0 where
  pub id : ItemId
  pub name : List ℕ
  pub setting : ZoneSetting

abbrev pub with_zone : ItemId → List ℕ → ItemPart → List LiveZone → List LiveZone
with_zone id name (parts.Zone setting) more = record { id = id; name = name; setting = setting } ∷ more
with_zone id name (parts.Sensor sensor) more = more
with_zone id name parts.Fan more = more
with_zone id name (parts.Control item) more = more
with_zone id name (parts.Mux part) more = more
with_zone id name parts.Passive more = more

abbrev pub zone_id : LiveZone → ItemId
zone_id zone = zone.id

-- the zones of some items
abbrev pub zones : List Item → List LiveZone
zones [] = []
zones (item ∷ more) = with_zone item.id item.name item.part (zones more)

-- a fan
pub record LiveFan : Type 0 where
  pub id : ItemId
  pub name : List ℕ

abbrev pub with_fan : ItemId → List ℕ → ItemPart → List LiveFan → List LiveFan
with_fan id name parts.Fan more = record { id = id; name = name } ∷ more
with_fan id name (parts.Sensor sensor) more = more
with_fan id name (parts.Zone setting) more = more
with_fan id name (parts.Control item) more = more
with_fan id name (parts.Mux part) more = more
with_fan id name parts.Passive more = more

abbrev pub fan_id : LiveFan → ItemId
fan_id fan = fan.id

-- the fans of some items
abbrev pub fans : List Item → List LiveFan
fans [] = []
fans (item ∷ more) = with_fan item.id item.name item.part (fans more)
