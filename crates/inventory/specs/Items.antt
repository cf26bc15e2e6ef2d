-- What the boards of one moment expose: their items, and which of them are live.
use Rattle.std.specs.Prelude.{ℕ, ◌≡◌, ◌≤◌, Bool, true, false, ⊤, not, ◌==◌, ◌&&◌, ◌||◌, bytes_eq, List, [], ◌∷◌, length, filter, filter_map, find}
use Rattle.std.specs.Prelude.{Option, Some, None, is_some}
use Rattle.std.specs.Prelude.{option_map}
use Rattle.std.specs.Prelude.{option_and_then, slice_get}
use Rattle.std.specs.Option.{option_eq, unwrap_or}
use Rattle.std.specs.List.{All, flat_map, list_any, enumerate_from}
use Rattle.bmc_base.specs.Places.{Place, place_eq, last_bus, last_address}
use Rattle.sensor_core.specs.Settings.{IsValidSetting}
use Rattle.fru_area.specs.declared.field.Field.{Field}
use Rattle.probe_lang.specs.declared.rows.Entry.{Entry}
use Rattle.probe_lang.specs.Presents.{is_entry_at}
use Rattle.tmpl.specs.Rendering.{rendered, rendered_number}
use Rattle.ctl_face.specs.Ranges.{IsValid}
use Rattle.cfg_json.specs.Configs.{Config, IsValidZone, most_names}
use Rattle.cfg_json.specs.declared.expose.Expose.{Expose}
use Rattle.cfg_json.specs.declared.expose.Body.{Body}
use Rattle.cfg_json.specs.declared.expose.Body.TheVariants as bodies
use Rattle.cfg_json.specs.declared.expose.SensorPart.{SensorPart}
use Rattle.cfg_json.specs.declared.expose.ControlPart.{ControlPart}
use Rattle.cfg_json.specs.declared.expose.MuxPart.{MuxPart}
use Rattle.cfg_json.specs.declared.item.SensorItem.{SensorItem}
use Rattle.cfg_json.specs.declared.item.ControlItem.{ControlItem}
use Rattle.cfg_json.specs.declared.item.MuxItem.{MuxItem}
use Rattle.cfg_json.specs.declared.item.ItemId.{ItemId}
use Rattle.cfg_json.specs.declared.item.Item.{Item}
use Rattle.cfg_json.specs.declared.item.ItemPart.{ItemPart}
use Rattle.cfg_json.specs.declared.item.ItemPart.TheVariants as parts
use Rattle.inventory.specs.declared.board.Board.{Board}
use Rattle.inventory.specs.declared.family.Family.{Family}
use Rattle.inventory.specs.declared.family.Family.TheVariants as families

-- the exposes of the configuration with this number
abbrev pub exposes_of : List Config → ℕ → List Expose
exposes_of configs number = unwrap_or (option_map (λ (config : Config). config.exposes) (slice_get configs number)) []

-- the number that a template gives at a board with this place, the fields of the record there, and this index, if there is a template and the
-- number is at most so many
abbrev pub number_at : Option Place → Option (List Field) → ℕ → ℕ → Option (List ℕ) → Option ℕ
number_at place fields index most template = option_and_then (λ template. rendered_number place fields index template most) template

-- what a sensor is at a board
abbrev pub sensor_at : Option Place → Option (List Field) → ℕ → SensorPart → SensorItem
sensor_at place fields index part = record {
  bus = number_at place fields index last_bus part.bus;
  address = number_at place fields index last_address part.address;
  setting = part.setting;
}

-- the names that templates give at a board; there are none where one has no rendering there
abbrev pub names_at : Option Place → Option (List Field) → ℕ → List (List ℕ) → Option (List (List ℕ))
names_at place fields index [] = Some []
names_at place fields index (template ∷ templates) =
    option_and_then (λ name. option_map (λ names. name ∷ names) (names_at place fields index templates)) (rendered place fields index template)

-- what a controller is at a board; it is none where one of its names has no rendering there
abbrev pub control_at : Option Place → Option (List Field) → ℕ → ControlPart → Option ControlItem
control_at place fields index part =
    option_and_then (λ zone.
    option_and_then (λ inputs.
    option_map (λ outputs. record { setting = part.setting; zone = zone; inputs = inputs; outputs = outputs })
    (names_at place fields index part.outputs))
    (names_at place fields index part.inputs))
    (rendered place fields index part.zone)

-- what a multiplexer is at a board; a channel that gives no bus there is left out
abbrev pub mux_at : Option Place → Option (List Field) → ℕ → MuxPart → MuxItem
mux_at place fields index part = record {
  fixed = part.fixed;
  moving = filter_map (λ template. rendered_number place fields index template last_bus) part.moving;
}

-- what a body is at a board with this place, the fields of the record there, and this index, if it has a rendering there
abbrev pub part_of : Option Place → Option (List Field) → ℕ → Body → Option ItemPart
part_of place fields index (bodies.Sensor part) = Some (parts.Sensor (sensor_at place fields index part))
part_of place fields index bodies.Fan = Some parts.Fan
part_of place fields index (bodies.Zone setting) = Some (parts.Zone setting)
part_of place fields index (bodies.Control part) = option_map parts.Control (control_at place fields index part)
part_of place fields index (bodies.Mux part) = Some (parts.Mux (mux_at place fields index part))
part_of place fields index bodies.Passive = Some parts.Passive

-- the fields of the record at the place of a board, where each place has these
abbrev pub board_fields : (Place → Option (List Field)) → Board → Option (List Field)
board_fields fields_at board = option_and_then fields_at board.key.place

-- the fields of the record of the entry at a place, if there is one
abbrev pub entry_fields : List Entry → Place → Option (List Field)
entry_fields entries place = option_map (λ (entry : Entry). entry.fru) (find (is_entry_at place) entries)

-- the item of an expose, by its position, at a board with these fields; there is none where the name of the expose, or a name that it asks
-- for, has no rendering there
abbrev pub rendered_item : Board → Option (List Field) → ℕ × Expose → Option Item
rendered_item board fields (position, expose) =
    option_and_then (λ name. option_map (λ part. record {
      id = record { config = board.key.config; place = board.key.place; expose = position };
      name = name;
      part = part;
    }) (part_of board.key.place fields board.index expose.body)) (rendered board.key.place fields board.index expose.name)

-- the items of these exposes at a board with these fields
abbrev pub rendered_items : Board → Option (List Field) → List Expose → List Item
rendered_items board fields exposes = filter_map (rendered_item board fields) (enumerate_from 0 exposes)

-- the items of a board
abbrev pub board_items : List Config → (Place → Option (List Field)) → Board → List Item
board_items configs fields_at board = rendered_items board (board_fields fields_at board) (exposes_of configs board.key.config)

-- the items of boards
unfoldable pub items : List Config → (Place → Option (List Field)) → List Board → List Item
items configs fields_at boards = flat_map (board_items configs fields_at) boards

-- the family of an item, in which names are given once
abbrev pub family_of : ItemPart → Option Family
family_of (parts.Sensor sensor) = Some families.Sensor
family_of parts.Fan = Some families.Fan
family_of (parts.Zone setting) = Some families.Zone
family_of (parts.Control control) = None
family_of (parts.Mux part) = None
family_of parts.Passive = None

-- the name of the zone that an item is in, which controllers alone are
abbrev pub zone_of : ItemPart → Option (List ℕ)
zone_of (parts.Control control) = Some control.zone
zone_of (parts.Sensor sensor) = None
zone_of parts.Fan = None
zone_of (parts.Zone setting) = None
zone_of (parts.Mux part) = None
zone_of parts.Passive = None

abbrev pub family_eq : Family → Family → Bool
family_eq families.Sensor families.Sensor = true
family_eq families.Zone families.Zone = true
family_eq families.Fan families.Fan = true
family_eq families.Sensor families.Zone = false
family_eq families.Sensor families.Fan = false
family_eq families.Zone families.Sensor = false
family_eq families.Zone families.Fan = false
family_eq families.Fan families.Sensor = false
family_eq families.Fan families.Zone = false

-- whether an item is of a family and has a name
abbrev pub has_name : Family → List ℕ → Item → Bool
has_name family name item = option_eq family_eq (family_of item.part) (Some family) && bytes_eq item.name name

-- the holder of a name in a family: the first item that has it
abbrev pub holder : List Item → Family → List ℕ → Option Item
holder items family name = find (has_name family name) items

-- the name that an item of a family bears, with the family
abbrev pub borne_name : Item → Option (Family × List ℕ)
borne_name item = option_map (λ family. (family, item.name)) (family_of item.part)

-- whether two names in families are one
abbrev pub same_name : Family × List ℕ → Family × List ℕ → Bool
same_name (family, name) (other, other_name) = family_eq family other && bytes_eq name other_name

-- whether two ids are one
abbrev pub id_eq : ItemId → ItemId → Bool
id_eq id other = id.config == other.config && option_eq place_eq id.place other.place && id.expose == other.expose

-- whether this is the item with an id
abbrev pub is_item : ItemId → Option Item → Bool
is_item id None = false
is_item id (Some item) = id_eq item.id id

-- whether an item holds its name in its family
abbrev pub holds_name : List Item → Item → Bool
holds_name items item = unwrap_or (option_map (λ family. is_item item.id (holder items family item.name)) (family_of item.part)) false

-- whether an item is in a zone whose name is held
abbrev pub has_zone : List Item → Item → Bool
has_zone items item = unwrap_or (option_map (λ zone. is_some (holder items families.Zone zone)) (zone_of item.part)) false

-- an item is live where it holds its name; a controller is where the name of its zone is held; others never are
abbrev pub is_live : List Item → Item → Bool
is_live items item = holds_name items item || has_zone items item

-- whether an item bears a name in a family, which sensors, zones and fans do
abbrev pub bears_name : ItemPart → Bool
bears_name part = is_some (family_of part)

-- whether an item is a controller
abbrev pub is_control : ItemPart → Bool
is_control (parts.Control control) = true
is_control (parts.Sensor sensor) = false
is_control (parts.Zone setting) = false
is_control parts.Fan = false
is_control (parts.Mux mux) = false
is_control parts.Passive = false

-- whether one of some items is a controller
abbrev pub has_control : List Item → Bool
has_control items = list_any (λ (item : Item). is_control item.part) items

-- each of these items that bears a name in a family is live among the items
abbrev pub AreNamedLive : List Item → List Item → Type 0
AreNamedLive items these = All (λ (item : Item). bears_name item.part ≡ true → is_live items item ≡ true) these

-- the items that are live
unfoldable pub live : List Item → List Item
live items = filter (is_live items) items

-- the items that are here and not there
unfoldable pub items_less : List Item → List Item → List Item
items_less here there = filter (λ item. not (list_any (λ other. id_eq other.id item.id) there)) here

-- the setting of a controller is valid, and it has few inputs and outputs
pub record IsValidControlItem (control : ControlItem) : Type 0 where
  pub setting : IsValid control.setting
  pub inputs : length control.inputs ≤ most_names
  pub outputs : length control.outputs ≤ most_names

-- the numbers of an item are in their ranges
abbrev pub IsValidPart : ItemPart → Type 0
IsValidPart (parts.Sensor sensor) = IsValidSetting sensor.setting
IsValidPart parts.Fan = ⊤
IsValidPart (parts.Zone setting) = IsValidZone setting
IsValidPart (parts.Control control) = IsValidControlItem control
IsValidPart (parts.Mux part) = ⊤
IsValidPart parts.Passive = ⊤

abbrev pub IsValidItem : Item → Type 0
IsValidItem item = IsValidPart item.part
