-- The lists that a core shows.
use Rattle.std.specs.Prelude.{ℕ, Bool, if◌then◌else◌, List, [], ◌++◌, length, Option, option_and_then, option_map, slice_get}
use Rattle.std.specs.List.{flat_map, range_with_len}
use Rattle.std.specs.Option.{unwrap_or}
use Rattle.bmc_base.specs.Places.{Place}
use Rattle.probe_lang.specs.declared.rows.Entry.{Entry}
use Rattle.cfg_json.specs.Configs.{Config}
use Rattle.cfg_json.specs.declared.expose.Expose.{Expose}
use Rattle.cfg_json.specs.declared.item.Item.{Item}
use Rattle.fru_rows.specs.Idle.{busy}
use Rattle.inventory.specs.Indexes.{kept_of}
use Rattle.inventory.specs.Items.{entry_fields, board_items, exposes_of, is_live, live}
use Rattle.inventory.specs.declared.board.Board.{Board}
use Rattle.bmc_report.specs.BoardRows.{board_row, item_row}
use Rattle.bmc_report.specs.Rows.{fru_row}
use Rattle.bmc_report.specs.declared.topic.Topic.{Topic}
use Rattle.bmc_report.specs.declared.topic.Topic.TheVariants.{Frus, Inventory, Sensors, Zones, Log, Indexes}
use Rattle.event_log.specs.Updates.{entries_of}
use Rattle.event_log.specs.declared.entry.LogEntry.{LogEntry}
use Rattle.sensor_core.specs.Sensors.{Sensor}
use Rattle.live_sensors.specs.Items.{setting_in}
use Rattle.live_sensors.specs.Sensors.{LiveSensors, sensor_in}
use Rattle.fan_zone.specs.Ticks.{ZonesView}
use Rattle.bmc_machine.specs.Boards.{name_of}
use Rattle.bmc_machine.specs.Logs.{entry_row as log_entry_row}
use Rattle.bmc_machine.specs.Shows.{sensor_text, zone_text, fan_text, index_rows, bus_in, address_in}
use Rattle.bmc_watch.specs.Watches.{WatchView, view_items, view_list}
use Rattle.bmc_core.specs.Cores.{CoreView}

-- the row of each FRU that is present
abbrev pub entry_row : Entry → List ℕ
entry_row entry = fru_row entry.place entry.fru

abbrev pub entry_rows : List Entry → List ℕ
entry_rows entries = flat_map entry_row entries

-- the sensor of a live item, if the item is a sensor
abbrev pub sensor_of_item : LiveSensors → Item → Option Sensor
sensor_of_item sensors item = option_and_then (λ setting. sensor_in sensors item.name) (setting_in item.part)

-- its row, at a tick
abbrev pub item_sensor_row : LiveSensors → ℕ → Item → List ℕ
item_sensor_row sensors tick item = sensor_text item.name tick (sensor_of_item sensors item)

-- the row of an item, if it is live
abbrev pub row_if_live : WatchView → LiveSensors → ℕ → Item → List ℕ
row_if_live watch sensors tick item = if is_live (view_items watch) item then item_sensor_row sensors tick item else []

-- the rows of the sensors among live items
abbrev pub sensor_rows : LiveSensors → ℕ → List Item → List ℕ
sensor_rows sensors tick items = flat_map (item_sensor_row sensors tick) items

-- the rows of the boards that are kept of each configuration
abbrev pub kept_rows : List Config → List (List (Option Place)) → List ℕ
kept_rows configs kept = flat_map (index_rows configs (kept_of kept)) (range_with_len 0 (length configs))

-- what a board exposes; FRUs that are idle have no boards
abbrev pub items_of : WatchView → Board → List Item
items_of watch board = board_items watch.configs (entry_fields (busy watch.entries)) board

-- the type of the expose at a position, as its configuration spells it
abbrev pub kind_at : List Expose → ℕ → List ℕ
kind_at exposes position = unwrap_or (option_map (λ (expose : Expose). expose.kind) (slice_get exposes position)) []

-- the row of an item of a board whose configuration has these exposes
abbrev pub item_line : List Expose → Bool → Item → List ℕ
item_line exposes is_live item = item_row (kind_at exposes item.id.expose) item.name (bus_in item.part) (address_in item.part) is_live

-- the rows of its items, each by whether it is live
abbrev pub item_rows : WatchView → List Expose → List Item → List ℕ
item_rows watch exposes items = flat_map (λ (item : Item). item_line exposes (is_live (view_items watch) item) item) items

-- the row of a board, and those of its items
abbrev pub board_rows : WatchView → Board → List ℕ
board_rows watch board =
    board_row (name_of watch.configs board.key.config) board.index board.key.place
    ++ item_rows watch (exposes_of watch.configs board.key.config) (items_of watch board)

-- the rows of all boards
abbrev pub inventory_rows : WatchView → List ℕ
inventory_rows watch = flat_map (board_rows watch) (view_list watch)

-- the rows of zones, and then of fans
abbrev pub zones_list : ZonesView → List ℕ
zones_list zones = flat_map zone_text zones.zone_rows ++ flat_map fan_text zones.fan_rows

-- the rows of entries of the log
abbrev pub log_rows : List LogEntry → List ℕ
log_rows entries = flat_map log_entry_row entries

-- what a core shows of a topic
abbrev pub core_list : Topic → CoreView → List ℕ
core_list Frus core = entry_rows core.state.senses.watch.entries
core_list Inventory core = inventory_rows core.state.senses.watch
core_list Sensors core = sensor_rows core.state.senses.sensors core.state.senses.ticks (live (view_items core.state.senses.watch))
core_list Zones core = zones_list core.state.zones
core_list Log core = log_rows (entries_of core.log)
core_list Indexes core = kept_rows core.state.senses.watch.configs core.state.senses.watch.kept
