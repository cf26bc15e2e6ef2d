-- What items are noted under, and the ids of those that are noted.
use Rattle.std.specs.Prelude.{◌≡◌, Bool, true, false, not, ◌||◌, ◌&&◌, if◌then◌else◌, bytes_eq, ℕ, List, [], ◌∷◌, filter, map, take}
use Rattle.std.specs.Prelude.{Option, Some, None, option_map}
use Rattle.std.specs.Borrow.{Bor}
use Rattle.std.specs.Option.{option_eq, unwrap_or}
use Rattle.std.specs.List.{flat_map, list_any}
use Rattle.std.specs.List.Sorted.{IsStrictlySortedBy}
use Rattle.std.specs.Map.{lookup}
use Rattle.cfg_json.specs.declared.item.Item.{Item}
use Rattle.cfg_json.specs.declared.item.ItemId.{ItemId}
use Rattle.cfg_json.specs.declared.item.ItemPart.{ItemPart}
use Rattle.cfg_json.specs.declared.item.ItemPart.TheVariants as parts
use Rattle.inventory.specs.Items.{id_eq}
use Rattle.inventory.specs.Orders.{id_cmp}
use Rattle.inventory.specs.declared.family.Family.{Family}
use Rattle.inventory.specs.declared.family.Family.TheVariants as families
use Rattle.inventory.specs.declared.tag.Role.{Role}
use Rattle.inventory.specs.declared.tag.Role.TheVariants.{Sensor, Zone, Fan, Member}
use Rattle.inventory.specs.declared.tag.Tag.{Tag}

-- the role in which an item of a family bears its name
abbrev pub role_of : Family → Role
role_of families.Sensor = Sensor
role_of families.Zone = Zone
role_of families.Fan = Fan

-- what the items of a family are noted under that have this name
abbrev pub name_tag : Family → List ℕ → Tag
name_tag family name = record { role = role_of family; name = name }

-- what the items are noted under that are in the zone of this name
abbrev pub member_tag : List ℕ → Tag
member_tag zone = record { role = Member; name = zone }

abbrev pub role_eq : Role → Role → Bool
role_eq Sensor Sensor = true
role_eq Zone Zone = true
role_eq Fan Fan = true
role_eq Member Member = true
role_eq Sensor Zone = false
role_eq Sensor Fan = false
role_eq Sensor Member = false
role_eq Zone Sensor = false
role_eq Zone Fan = false
role_eq Zone Member = false
role_eq Fan Sensor = false
role_eq Fan Zone = false
role_eq Fan Member = false
role_eq Member Sensor = false
role_eq Member Zone = false
role_eq Member Fan = false

-- whether two tags are one
abbrev pub tag_eq : Tag → Tag → Bool
tag_eq tag other = role_eq tag.role other.role && bytes_eq tag.name other.name

-- what an item of this name is noted under: its name in its family, or the name of its zone
abbrev pub tag_by : List ℕ → ItemPart → Option Tag
tag_by name (parts.Sensor sensor) = Some (name_tag families.Sensor name)
tag_by name parts.Fan = Some (name_tag families.Fan name)
tag_by name (parts.Zone setting) = Some (name_tag families.Zone name)
tag_by name (parts.Control control) = Some (member_tag control.zone)
tag_by name (parts.Mux part) = None
tag_by name parts.Passive = None

abbrev pub tag_of : Item → Option Tag
tag_of item = tag_by item.name item.part

-- these ids ascend, and are those that pass a test
pub record Lists (ids : List ItemId) (test : ItemId → Bool) : Type 0 where
  pub order : IsStrictlySortedBy id_cmp ids
  pub each : (id : ItemId) → list_any (id_eq id) ids ≡ test id

-- what passes a test, and an id
abbrev pub or_id : (ItemId → Bool) → ItemId → ItemId → Bool
or_id test id each = test each || id_eq each id

-- what passes a test, but for an id
abbrev pub but_id : (ItemId → Bool) → ItemId → ItemId → Bool
but_id test id each = test each && not (id_eq each id)

-- whether an item is noted under a tag
abbrev pub bears : Tag → Item → Bool
bears tag item = option_eq tag_eq (tag_of item) (Some tag)

-- the ids of the items that are noted under a tag
abbrev pub bearers : List Item → Tag → List ItemId
bearers items tag = map (λ (item : Item). item.id) (filter (bears tag) items)

-- whether an item with an id is noted under a tag
abbrev pub is_bearer : List Item → Tag → ItemId → Bool
is_bearer items tag id = list_any (λ (item : Item). bears tag item && id_eq id item.id) items

-- the ids that are kept for a tag
abbrev pub ids_in : List (Tag × List ItemId) → Tag → List ItemId
ids_in tags tag = unwrap_or (lookup (tag_eq tag) tags) []

-- the same, where others take their place for some tags
abbrev pub ids_over : List (Tag × List ItemId) → List (Tag × List ItemId) → Tag → List ItemId
ids_over over tags tag = unwrap_or (lookup (tag_eq tag) over) (ids_in tags tag)

-- for each tag those ids are kept that pass its test
abbrev pub AreBorne : List (Tag × List ItemId) → List (Tag × List ItemId) → (Tag → ItemId → Bool) → Type 0
AreBorne over tags test = (tag : Tag) → Lists (ids_over over tags tag) (test tag)

-- whether there are no ids
abbrev pub is_empty : List ItemId → Bool
is_empty [] = true
is_empty (id ∷ ids) = false

-- whether there are several ids
abbrev pub are_several : List ItemId → Bool
are_several [] = false
are_several (id ∷ ids) = not (is_empty ids)

-- whether several of the ids under a tag bear one name, which the controllers in a zone do not
abbrev pub share_name : Role → List ItemId → Bool
share_name Sensor ids = are_several ids
share_name Zone ids = are_several ids
share_name Fan ids = are_several ids
share_name Member ids = false

-- no name in a family is borne by several
abbrev pub HaveOwnNames : (Tag → List ItemId) → Type 0
HaveOwnNames ids = (tag : Tag) → share_name tag.role (ids tag) ≡ false

-- whether ids that are noted for some tags bear one name
abbrev pub some_share : List (Tag × List ItemId) → Bool
some_share tags = list_any (λ (entry : Tag × List ItemId). share_name entry.0.role entry.1) tags

-- the ids that are live of those that bear a name, and of those that are in a zone, where these bear its name
abbrev pub live_by : Role → List ItemId → List ItemId → List ItemId
live_by Sensor ids bearers = take 1 ids
live_by Zone ids bearers = take 1 ids
live_by Fan ids bearers = take 1 ids
live_by Member ids bearers = if is_empty bearers then [] else ids

-- the ids that are live under a tag: the first that bears a name, or all that are in a zone whose name is borne
abbrev pub live_under : (Tag → List ItemId) → Tag → List ItemId
live_under ids tag = live_by tag.role (ids tag) (ids (name_tag families.Zone tag.name))

-- whether this is an id
abbrev pub is_id : ItemId → Option ItemId → Bool
is_id id None = false
is_id id (Some other) = id_eq id other

-- ids, or none
abbrev pub ids_or_none : Option (Bor (List ItemId)) → List ItemId
ids_or_none ids = unwrap_or (option_map (λ (ids : Bor (List ItemId)). ids.now) ids) []

-- what is noted of what was so and of an item, where the item comes or goes
abbrev pub noted_by : Bool → Bool → Bool → Bool
noted_by true was its = was || its
noted_by false was its = was && not its

-- the tags under which something may change where the ids for one change: with the name of a zone all that are in it
abbrev pub touched_by : Role → List ℕ → List Tag
touched_by Zone zone = name_tag families.Zone zone ∷ member_tag zone ∷ []
touched_by Sensor name = name_tag families.Sensor name ∷ []
touched_by Fan name = name_tag families.Fan name ∷ []
touched_by Member zone = member_tag zone ∷ []

abbrev pub touched : List Tag → List Tag
touched tags = flat_map (λ (tag : Tag). touched_by tag.role tag.name) tags

-- whether an id is live under a tag here and not there
abbrev pub leads_less : (Tag → List ItemId) → (Tag → List ItemId) → ItemId → Tag → Bool
leads_less here there id tag = list_any (id_eq id) (live_under here tag) && not (list_any (id_eq id) (live_under there tag))

-- whether it is so for one of these tags
abbrev pub leads : (Tag → List ItemId) → (Tag → List ItemId) → List Tag → ItemId → Bool
leads here there tags id = list_any (leads_less here there id) tags
