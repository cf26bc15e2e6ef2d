-- What a step changes: the boards that go and those that come, the live items, and what sensors, zones and fans show.
use Rattle.std.specs.Prelude.{ℕ, ◌==◌, bytes_eq, Bool, true, false, if◌then◌else◌, List, [], ◌∷◌, ◌++◌, length, map, filter_map, Option, Some, None, option_map}
use Rattle.std.specs.List.{flat_map, enumerate_from, list_any}
use Rattle.std.proofs.Math.Bool.{beq}
use Rattle.std.specs.Option.{option_eq}
use Rattle.std.specs.Ordering.{int_eq}
use Rattle.bmc_base.specs.declared.milli.Milli.{Milli}
use Rattle.bmc_base.specs.Places.{Place}
use Rattle.cfg_json.specs.Configs.{Config}
use Rattle.cfg_json.specs.declared.item.Item.{Item}
use Rattle.cfg_json.specs.declared.item.ItemPart.{ItemPart}
use Rattle.cfg_json.specs.declared.item.ItemPart.TheVariants as parts
use Rattle.inventory.specs.Indexes.{index_in}
use Rattle.inventory.specs.Items.{items_less}
use Rattle.inventory.specs.Differences.{keys_left}
use Rattle.inventory.specs.declared.board.BoardKey.{BoardKey}
use Rattle.bmc_report.specs.declared.change.Change.{Change}
use Rattle.bmc_report.specs.declared.change.Change.TheVariants as changes_of
use Rattle.bmc_report.specs.declared.change.Change.TheVariants.{Board, Failure, Alarm, Zone, Duty}
use Rattle.bmc_report.specs.declared.live_kind.LiveKind.{LiveKind}
use Rattle.bmc_report.specs.declared.live_kind.LiveKind.TheVariants as kinds
use Rattle.sensor_core.specs.Limits.{most_severe}
use Rattle.sensor_core.specs.Sensors.{Sensor, has_failed, has_alarm}
use Rattle.sensor_core.specs.Settings.{limits_of}
use Rattle.sensor_core.specs.declared.limit.Limit.{Limit}
use Rattle.fan_zone.specs.Live.{LiveZone, LiveFan, zones, fans}
use Rattle.bmc_machine.specs.Boards.{boards, name_of}
use Rattle.bmc_machine.specs.Histories.{Step, standing}
use Rattle.bmc_machine.specs.Indexes.{kept, live_now}
use Rattle.bmc_machine.specs.Lives.{has_id, item_sensor}
use Rattle.bmc_machine.specs.Turns.{zone_now, fan_now}

-- the configurations of one moment; by number the boards of each, and all that it ever had; and the items that are live
pub record Inventory : Type 0 where
  pub configs : List Config
  pub boards : ℕ → List (Option Place)
  pub kept : ℕ → List (Option Place)
  pub live : List Item

-- that of the moment after a history
abbrev pub inventory : List Step → Inventory
inventory past = record { configs = (standing past).configs; boards = boards (standing past); kept = kept past; live = live_now past }

-- a board is gone or new, under the name of its configuration and the index that it has among these
abbrev pub board_change : Bool → List Config → (ℕ → List (Option Place)) → BoardKey → Change
board_change gone configs kept key = Board gone (name_of configs key.config) (index_in (kept key.config) key.place) key.place

-- the changes of the boards that are here and not there
abbrev pub boards_left : Bool → Inventory → Inventory → List Change
boards_left gone here there = map (board_change gone here.configs here.kept) (keys_left (length here.configs) here.boards there.boards)

-- what the part of a live item is called
abbrev pub kind_of : ItemPart → Option LiveKind
kind_of (parts.Sensor item) = Some kinds.Sensor
kind_of parts.Fan = Some kinds.Fan
kind_of (parts.Zone setting) = Some kinds.Zone
kind_of (parts.Control control) = Some kinds.Controller
kind_of (parts.Mux part) = None
kind_of parts.Passive = None

-- a live item is gone or new
abbrev pub item_change : Bool → Item → Option Change
item_change gone item = option_map (λ kind. changes_of.Item gone kind item.name) (kind_of item.part)

-- whether an item is a controller that has a sensor of this name as an input
abbrev pub asks_for : List ℕ → ItemPart → Bool
asks_for name (parts.Control control) = list_any (bytes_eq name) control.inputs
asks_for name (parts.Sensor item) = false
asks_for name parts.Fan = false
asks_for name (parts.Zone setting) = false
asks_for name (parts.Mux part) = false
asks_for name parts.Passive = false

-- whether zones have to do with an item of this kind and name: it acts in them, or it is a sensor that one of these items has as an input
abbrev pub concerns : List Item → LiveKind → List ℕ → Bool
concerns items kinds.Sensor name = list_any (λ (item : Item). asks_for name item.part) items
concerns items kinds.Fan name = true
concerns items kinds.Zone name = true
concerns items kinds.Controller name = true

-- whether a change is that a live item is gone or new with which zones have to do
abbrev pub concerns_zones : List Item → Change → Bool
concerns_zones items (changes_of.Item gone kind name) = concerns items kind name
concerns_zones items _ = false

-- the changes of the live items that are here and not there
abbrev pub items_left : Bool → Inventory → Inventory → List Change
items_left gone here there = filter_map (item_change gone) (items_less here.live there.live)

-- the changes from one moment to the next: the boards that are gone, and then those that are new, each by configuration and place; and then
-- the live items that are gone, and those that are new, each by board and expose
unfoldable pub changes_between : Inventory → Inventory → List Change
changes_between before after =
    boards_left true before after ++ boards_left false after before ++ items_left true before after ++ items_left false after before

-- a sensor failed, or works again
abbrev pub failure_change : List ℕ → Bool → Bool → List Change
failure_change name was is = if beq was is then [] else Failure is name ∷ []

-- the alarm of a limit went on or off
abbrev pub alarm_change : List ℕ → Sensor → Sensor → ℕ × Limit → List Change
alarm_change name before after (position, limit) =
    if beq (has_alarm before position) (has_alarm after position) then []
    else Alarm (has_alarm after position) name position limit.above (limit.severity == most_severe) ∷ []

-- what a sensor of this name shows otherwise than before: whether it failed, and then its alarms by position
unfoldable pub sensor_changes : List ℕ → Sensor → Sensor → List Change
sensor_changes name before after =
    failure_change name (has_failed before) (has_failed after) ++ flat_map (alarm_change name before after) (enumerate_from 0 (limits_of after.setting))

-- the same, where there was a sensor and is one
abbrev pub changes_of_sensor : List ℕ → Option Sensor → Option Sensor → List Change
changes_of_sensor name (Some before) (Some after) = sensor_changes name before after
changes_of_sensor name (Some before) None = []
changes_of_sensor name None after = []

-- what the sensor of a live item shows otherwise than before a step, where the item was live before it
abbrev pub changes_of_item : List Step → Step → Item → List Change
changes_of_item past step item =
    if has_id (live_now past) item.id then changes_of_sensor item.name (item_sensor past item) (item_sensor (step ∷ past) item) else []

-- what the sensors of live items show otherwise than before a step
abbrev pub changes_of_sensors : List Step → Step → List Change
changes_of_sensors past step = flat_map (changes_of_item past step) (live_now (step ∷ past))

-- a zone went into failsafe, or is normal again
abbrev pub mode_change : List ℕ → Bool → Bool → List Change
mode_change name was is = if beq was is then [] else Zone is name ∷ []

-- a zone that was live before a step shows another mode than before
abbrev pub changes_of_zone : List Step → Step → LiveZone → List Change
changes_of_zone past step zone =
    if has_id (live_now past) zone.id then mode_change zone.name (zone_now past zone).failsafe (zone_now (step ∷ past) zone).failsafe else []

abbrev pub milli_eq : Milli → Milli → Bool
milli_eq number other = int_eq number.0 other.0

-- the duty of a fan is another
abbrev pub duty_change : List ℕ → Option Milli → Option Milli → List Change
duty_change name was None = []
duty_change name was (Some duty) = if option_eq milli_eq was (Some duty) then [] else Duty name duty ∷ []

-- a fan that was live before a step shows another duty than before
abbrev pub changes_of_fan : List Step → Step → LiveFan → List Change
changes_of_fan past step fan =
    if has_id (live_now past) fan.id then duty_change fan.name (fan_now past fan).duty (fan_now (step ∷ past) fan).duty else []

-- what live zones, and then live fans, show otherwise than before a step
abbrev pub changes_of_zones : List Step → Step → List Change
changes_of_zones past step =
    flat_map (changes_of_zone past step) (zones (live_now (step ∷ past))) ++ flat_map (changes_of_fan past step) (fans (live_now (step ∷ past)))

-- the changes of a step: of boards and live items, of sensors, and then of zones and fans
abbrev pub changes : List Step → Step → List Change
changes past step = changes_between (inventory past) (inventory (step ∷ past)) ++ changes_of_sensors past step ++ changes_of_zones past step
