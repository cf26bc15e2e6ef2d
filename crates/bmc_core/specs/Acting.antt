-- The live items that act in zones, and what becomes of the zones behind an event.
use Rattle.std.specs.Prelude.{◌≡◌, ◌⊎◌, ℕ, bytes_eq, Bool, false, ◌&&◌, List, [], filter, length, slice_index_or}
use Rattle.std.specs.List.{list_any}
use Rattle.bmc_report.specs.declared.change.Change.{Change}
use Rattle.bmc_report.specs.declared.change.Change.TheVariants as changes_of
use Rattle.bmc_report.specs.declared.live_kind.LiveKind.TheVariants as kinds
use Rattle.cfg_json.specs.declared.item.Item.{Item}
use Rattle.cfg_json.specs.declared.item.ItemPart.{ItemPart}
use Rattle.cfg_json.specs.declared.item.ItemPart.TheVariants as parts
use Rattle.fan_zone.specs.Live.{acts}
use Rattle.fan_zone.specs.IsSets.{IsSet}
use Rattle.fan_zone.specs.Ticks.{ZonesView}
use Rattle.inventory.specs.Items.{is_live, live}
use Rattle.live_sensors.specs.Sensors.{LiveSensors}
use Rattle.bmc_machine.specs.Changes.{concerns_zones}
use Rattle.bmc_watch.specs.Watches.{WatchView, view_items}

-- the zones, the fans and the controllers among items
abbrev pub acting : List Item → List Item
acting items = filter (λ (item : Item). acts item.part) items

-- those of these items that are live and act in zones
abbrev pub acting_of : WatchView → List Item → List Item
acting_of watch items = filter (λ (item : Item). acts item.part && is_live (view_items watch) item) items

-- the most of them: 32 zones, 128 fans, and 192 controllers
abbrev pub most_acting : ℕ
most_acting = 352

-- whether a change is that a sensor is gone or new which has one of these names
abbrev pub is_named : List (List ℕ) → Change → Bool
is_named names (changes_of.Item gone kinds.Sensor name) = list_any (bytes_eq name) names
is_named names (changes_of.Item gone kinds.Zone name) = false
is_named names (changes_of.Item gone kinds.Fan name) = false
is_named names (changes_of.Item gone kinds.Controller name) = false
is_named names _ = false

-- whether a length is noted that a name has
abbrev pub is_as_long : List Bool → List ℕ → Bool
is_as_long lengths name = slice_index_or lengths (length name) false

-- each name is as long as one that is noted, if its sensor is gone or new by these changes
abbrev pub AreNoted : List Bool → List Change → Type 0
AreNoted lengths changes = (names : List (List ℕ)) → list_any (is_as_long lengths) names ≡ false → list_any (is_named names) changes ≡ false

-- the length is noted of the name of a sensor that is gone or new by this change, with those that were noted before
abbrev pub NotesLength : List Bool → Change → List Bool → Type 0
NotesLength old change new =
    (names : List (List ℕ)) → list_any (is_as_long new) names ≡ false → (list_any (is_as_long old) names ≡ false) × (is_named names change ≡ false)

abbrev pub asks_by : List Change → ItemPart → Bool
asks_by changes (parts.Control control) = list_any (is_named control.inputs) changes
asks_by changes (parts.Sensor sensor) = false
asks_by changes parts.Fan = false
asks_by changes (parts.Zone setting) = false
asks_by changes (parts.Mux part) = false
asks_by changes parts.Passive = false

-- whether an item is a controller with an input that is gone or new by these changes
abbrev pub asks_for_some : List Change → Item → Bool
asks_for_some changes item = asks_by changes item.part

-- zones may stay as they are behind an event: its changes tell of no zone, no fan, no controller, and of no sensor that a live controller has as an
-- input. Where there is no zone there is no controller, so that sensors do not count
abbrev pub MayStay : ZonesView → WatchView → Type 0
MayStay zones watch =
    (list_any (concerns_zones (live (view_items watch))) watch.changes ≡ false)
    ⊎ ((zones.zone_rows ≡ []) × (list_any (concerns_zones []) watch.changes ≡ false))

-- the zones behind an event: they are set to the live items that act in zones, or they stay, where they may
abbrev pub AreRenewed : ZonesView → WatchView → LiveSensors → ZonesView → Type 0
AreRenewed old watch sensors new = IsSet old (acting (live (view_items watch))) sensors new ⊎ (MayStay old watch × (new ≡ old))
