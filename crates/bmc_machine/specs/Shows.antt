-- The lists that a script asks for.
use Rattle.std.specs.Prelude.{ℕ, List, [], ◌++◌, length, Option, Some, None, option_map, slice_get}
use Rattle.std.specs.List.{flat_map, range_with_len}
use Rattle.std.specs.Option.{unwrap_or}
use Rattle.bmc_base.specs.Places.{Place}
use Rattle.cfg_json.specs.Configs.{Config}
use Rattle.cfg_json.specs.declared.expose.Expose.{Expose}
use Rattle.cfg_json.specs.declared.item.Item.{Item}
use Rattle.cfg_json.specs.declared.item.ItemId.{ItemId}
use Rattle.cfg_json.specs.declared.item.ItemPart.{ItemPart}
use Rattle.cfg_json.specs.declared.item.ItemPart.TheVariants as parts
use Rattle.inventory.specs.Indexes.{index_in}
use Rattle.inventory.specs.Items.{exposes_of, board_items}
use Rattle.inventory.specs.declared.board.Board.{Board}
use Rattle.bmc_report.specs.BoardRows.{board_row, index_row, item_row}
use Rattle.bmc_report.specs.Rows.{fru_row}
use Rattle.bmc_report.specs.SensorRows.{sensor_row}
use Rattle.bmc_report.specs.ZoneRows.{zone_row, fan_row}
use Rattle.bmc_report.specs.declared.topic.Topic.{Topic}
use Rattle.bmc_report.specs.declared.topic.Topic.TheVariants.{Frus, Inventory, Sensors, Zones, Log, Indexes}
use Rattle.sensor_core.specs.Sensors.{Sensor, has_failed, age_at}
use Rattle.fan_zone.specs.Live.{LiveZone, LiveFan, zones, fans}
use Rattle.fan_zone.specs.declared.rows.ZoneRow.{ZoneRow}
use Rattle.fan_zone.specs.declared.rows.FanRow.{FanRow}
use Rattle.bmc_machine.specs.Standings.{Fru, fields_of}
use Rattle.bmc_machine.specs.Boards.{fields_at, name_of}
use Rattle.bmc_machine.specs.Histories.{Step, standing, tick_of}
use Rattle.bmc_machine.specs.Indexes.{kept, boards_now, live_now}
use Rattle.bmc_machine.specs.Lives.{has_id, item_sensor}
use Rattle.bmc_machine.specs.Logs.{log_list}
use Rattle.bmc_machine.specs.Turns.{zone_now, fan_now}

-- the row of a FRU that is present, read from its bytes
abbrev pub row_of : Fru → List ℕ
row_of fru = fru_row fru.place (fields_of fru)

-- the list of FRUs, by place
unfoldable pub fru_list : List Fru → List ℕ
fru_list frus = flat_map row_of frus

-- the row of a sensor of this name at this tick, if there is one
abbrev pub sensor_text : List ℕ → ℕ → Option Sensor → List ℕ
sensor_text name tick None = []
sensor_text name tick (Some sensor) = sensor_row name sensor.value (has_failed sensor) (age_at sensor tick) sensor.alarms

-- the list of live sensors, by board and expose
unfoldable pub sensor_list : List Step → List ℕ
sensor_list past = flat_map (λ (item : Item). sensor_text item.name (tick_of past) (item_sensor past item)) (live_now past)

-- the row of a zone, and of a fan
abbrev pub zone_text : ZoneRow → List ℕ
zone_text row = zone_row row.name row.failsafe row.setpoint

abbrev pub fan_text : FanRow → List ℕ
fan_text row = fan_row row.name row.duty

-- the list of live zones, and then of live fans, each by board and expose
unfoldable pub zone_list : List Step → List ℕ
zone_list past =
    flat_map (λ (zone : LiveZone). zone_text (zone_now past zone)) (zones (live_now past))
    ++ flat_map (λ (fan : LiveFan). fan_text (fan_now past fan)) (fans (live_now past))

-- the rows of all boards that a configuration ever had, by index
abbrev pub index_rows : List Config → (ℕ → List (Option Place)) → ℕ → List ℕ
index_rows configs kept number = flat_map (λ place. index_row (name_of configs number) (index_in (kept number) place) place) (kept number)

-- the list of indexes, by configuration and index
unfoldable pub index_list : List Step → List ℕ
index_list past = flat_map (index_rows (standing past).configs (kept past)) (range_with_len 0 (length (standing past).configs))

-- the bus and the address of a sensor
abbrev pub bus_in : ItemPart → Option ℕ
bus_in (parts.Sensor sensor) = sensor.bus
bus_in parts.Fan = None
bus_in (parts.Zone setting) = None
bus_in (parts.Control control) = None
bus_in (parts.Mux part) = None
bus_in parts.Passive = None

abbrev pub address_in : ItemPart → Option ℕ
address_in (parts.Sensor sensor) = sensor.address
address_in parts.Fan = None
address_in (parts.Zone setting) = None
address_in (parts.Control control) = None
address_in (parts.Mux part) = None
address_in parts.Passive = None

-- the type of an item, as its configuration spells it
abbrev pub type_of : List Config → ItemId → List ℕ
type_of configs id = unwrap_or (option_map (λ (expose : Expose). expose.kind) (slice_get (exposes_of configs id.config) id.expose)) []

-- the row of an item, where these items are live
abbrev pub item_text : List Config → List Item → Item → List ℕ
item_text configs live item = item_row (type_of configs item.id) item.name (bus_in item.part) (address_in item.part) (has_id live item.id)

-- the row of a board, and those of its items
abbrev pub board_text : List Config → List Fru → List Item → Board → List ℕ
board_text configs frus live board =
    board_row (name_of configs board.key.config) board.index board.key.place
    ++ flat_map (item_text configs live) (board_items configs (fields_at frus) board)

-- the list of boards with their items, by configuration and place
unfoldable pub board_lists : List Step → List ℕ
board_lists past = flat_map (board_text (standing past).configs (standing past).frus (live_now past)) (boards_now past)

-- what is printed of a topic after a history
abbrev pub shown : Topic → List Step → List ℕ
shown Frus past = fru_list (standing past).frus
shown Inventory past = board_lists past
shown Sensors past = sensor_list past
shown Zones past = zone_list past
shown Log past = log_list past
shown Indexes past = index_list past
