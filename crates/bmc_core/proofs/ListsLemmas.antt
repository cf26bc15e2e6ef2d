-- The lists that a core shows are those of the machine, where it stands for a history.
use Rattle.std.proofs.Common.{◌≡◌, ◌∙◌, ℕ, List, [], ◌∷◌, ◌++◌, map, length, Bool, true, false, cond, Option, Some, None, option_map, refl, sym, ap, ap₂}
use Rattle.std.specs.Prelude.{option_and_then}
use Rattle.std.specs.List.{AllByRecursion, flat_map, range_with_len}
use Rattle.std.specs.Cmp.Lexicographic.{nat_list_eq_equiv}
use Rattle.std.specs.Option.{is_some}
use Rattle.sensor_core.specs.Sensors.{sensor_of}
use Rattle.sensor_core.specs.declared.setting.SensorSetting.{SensorSetting}
use Rattle.cfg_json.specs.Configs.{Config}
use Rattle.cfg_json.specs.declared.item.Item.{Item}
use Rattle.fru_rows.specs.Idle.{busy}
use Rattle.inventory.specs.Indexes.{kept_of}
use Rattle.inventory.specs.Items.{board_fields, entry_fields, exposes_of, has_name, holder, rendered_items}
use Rattle.inventory.specs.Lists.{board_list, keys_of}
use Rattle.inventory.specs.declared.board.Board.{Board}
use Rattle.inventory.specs.declared.family.Family.TheVariants as families
use Rattle.inventory.proofs.BoardLemmas.{and_both}
use Rattle.inventory.proofs.ListLemmas.{all_weaker}
use Rattle.bmc_report.specs.BoardRows.{board_row}
use Rattle.bmc_report.specs.Rows.{fru_row}
use Rattle.bmc_report.specs.declared.topic.Topic.{Topic}
use Rattle.bmc_report.specs.declared.topic.Topic.TheVariants.{Frus, Inventory, Sensors, Zones, Log, Indexes}
use Rattle.event_log.specs.Listed.{listed}
use Rattle.event_log.specs.Stands.{LogView}
use Rattle.event_log.specs.Updates.{entries_of}
use Rattle.event_log.proofs.ListedLemmas.{lists_all}
use Rattle.live_sensors.specs.Items.{setting_in}
use Rattle.live_sensors.specs.Sensors.{LiveSensors, sensor_in}
use Rattle.fan_zone.specs.Live.{zones as live_zones, fans as live_fans}
use Rattle.fan_zone.specs.Ticks.{ZonesView}
use Rattle.fan_zone.specs.declared.rows.FanRow.{FanRow}
use Rattle.fan_zone.specs.declared.rows.ZoneRow.{ZoneRow}
use Rattle.bmc_machine.specs.Boards.{board_keys, boards, fields_at, name_of}
use Rattle.bmc_machine.specs.Histories.{Step, standing, tick_of}
use Rattle.bmc_machine.specs.Indexes.{boards_now, live_now}
use Rattle.bmc_machine.specs.Lives.{item_sensor, outcomes, sensor_now}
use Rattle.bmc_machine.specs.Logs.{entries, log_list}
use Rattle.bmc_machine.specs.Names.{is_of}
use Rattle.bmc_machine.specs.Refusals.{IsLegal}
use Rattle.bmc_machine.specs.Shows.{board_lists, board_text, fan_text, fru_list, index_list, index_rows, item_text, sensor_list, sensor_text, shown}
use Rattle.bmc_machine.specs.Shows.{zone_list, zone_text}
use Rattle.bmc_machine.specs.Standings.{Fru, fields_of}
use Rattle.bmc_machine.specs.Turns.{fan_now, zone_now}
use Rattle.bmc_machine.specs.Zones.{ZonesStand}
use Rattle.bmc_machine.proofs.LivesLemmas.{sensor_is}
use Rattle.bmc_machine.proofs.SettledLemmas.{AreNamedOnce, live_once, none_behind, of_sensors}
use Rattle.bmc_watch.specs.Watches.{WatchView, WatchStands, fru_entry, view_boards, view_list}
use Rattle.bmc_watch.proofs.ItemsLemmas.{IsAlike, busy_alike}
use Rattle.bmc_watch.proofs.WatchesLemmas.{boards_are, fields_are, known_by_place, live_is}
use Rattle.bmc_core.specs.Cores.{CoreView, LogStands, Stands}
use Rattle.bmc_core.specs.Lists.{board_rows, core_list, entry_rows, inventory_rows, item_sensor_row, kept_rows, log_rows, sensor_of_item, sensor_rows}
use Rattle.bmc_core.specs.Lists.{zones_list}
use Rattle.bmc_core.proofs.LiveLemmas.{all_told_rows, told_rows}

-- the rows of elements that have the same rows
rows_alike : {X : Type 0} (row other : X → List ℕ) (xs : List X) → AllByRecursion (λ x. row x ≡ other x) xs → flat_map row xs ≡ flat_map other xs
rows_alike row other [] alike = refl
rows_alike row other (x ∷ xs) alike = ap₂ (λ (first later : List ℕ). first ++ later) alike.0 (rows_alike row other xs alike.1)

-- ---- FRUs

frus_are : (configs : List Config) (frus : List Fru) → entry_rows (map (fru_entry configs) frus) ≡ fru_list frus
unfolding fru_list
frus_are configs [] = refl
frus_are configs (fru ∷ frus) = ap (λ (rows : List ℕ). fru_row fru.place (fields_of fru) ++ rows) (frus_are configs frus)

-- ---- indexes

indexes_are : (watch : WatchView) (past : List Step) → WatchStands watch past → kept_rows watch.configs watch.kept ≡ index_list past
unfolding index_list
indexes_are watch past stood =
    λ i. flat_map (index_rows (stood.configs i) (λ number. stood.kept number i)) (range_with_len 0 (length (stood.configs i)))

-- ---- sensors

-- where names are given once each sensor item holds its name
each_holds : (items : List Item) → AreNamedOnce families.Sensor items
    → AllByRecursion (λ (item : Item). is_of families.Sensor item ≡ true → holder items families.Sensor item.name ≡ Some item) items
each_holds [] once = tt
each_holds (first ∷ items) once = (
  here,
  all_weaker (Holds items) (Holds (first ∷ items)) (λ item. later item (has_name families.Sensor item.name first) refl) items
      (each_holds items once.1),
)
  where
    Holds : List Item → Item → Type 0
    Holds items item = is_of families.Sensor item ≡ true → holder items families.Sensor item.name ≡ Some item

    here : Holds (first ∷ items) first
    here of =
        ap (λ (named : Bool). cond named (Some first) (holder items families.Sensor first.name)) (and_both _ _ of (nat_list_eq_equiv.refl first.name))

    later : (item : Item) (named : Bool) → has_name families.Sensor item.name first ≡ named → Holds items item
        → is_of families.Sensor item ≡ true → cond named (Some first) (holder items families.Sensor item.name) ≡ Some item
    later item true named holds of =
        let none : holder items families.Sensor item.name ≡ None = none_behind families.Sensor item.name first items once named in
        let some : holder items families.Sensor item.name ≡ Some item = holds of in
        absurd (cc)
    later item false named holds of = holds of

module _ (past : List Step) (sensors : LiveSensors) (stood : (name : List ℕ) → sensor_in sensors name ≡ sensor_now past name) where
  -- the name of a sensor that holds it has its sensor
  shows : (item : Item) → (is_of families.Sensor item ≡ true → holder (live_now past) families.Sensor item.name ≡ Some item)
      → sensor_of_item sensors item ≡ item_sensor past item
  shows item holds = by (setting_in item.part) refl
    where
      by : (setting : Option SensorSetting) → setting_in item.part ≡ setting → sensor_of_item sensors item ≡ item_sensor past item
      by None none =
          ap (option_and_then (λ (setting : SensorSetting). sensor_in sensors item.name)) none
          ∙ sym (ap (option_map (λ (setting : SensorSetting). sensor_of setting (outcomes item past))) none)
      by (Some setting) some =
          ap (option_and_then (λ (setting : SensorSetting). sensor_in sensors item.name)) some
          ∙ stood item.name ∙ sensor_is past item.name (Some item) (holds (of_sensors item.part ∙ ap is_some some))

  sensors_are : IsLegal past → sensor_rows sensors (tick_of past) (live_now past) ≡ sensor_list past
  unfolding sensor_list
  sensors_are legal =
      rows_alike (item_sensor_row sensors (tick_of past)) (λ (item : Item). sensor_text item.name (tick_of past) (item_sensor past item)) (live_now past)
      (all_weaker _ _ (λ (item : Item) holds. ap (sensor_text item.name (tick_of past)) (shows item holds)) (live_now past)
      (each_holds (live_now past) (live_once past legal)))

-- ---- boards and their items

module _ (watch : WatchView) (past : List Step) (stood : WatchStands watch past) where
  -- a board that has the same fields among the busy FRUs as among all has the same rows
  board_same : (board : Board) → IsAlike (entry_fields (busy watch.entries)) (entry_fields watch.entries) board
      → told_rows watch board ≡ board_text (standing past).configs (standing past).frus (live_now past) board
  board_same board alike = λ i.
      board_row (name_of (stood.configs i) board.key.config) board.index board.key.place
      ++ flat_map (item_text (stood.configs i) (live_is watch past stood i))
      (rendered_items board (fields i) (exposes_of (stood.configs i) board.key.config))
    where
      fields : board_fields (entry_fields (busy watch.entries)) board ≡ board_fields (fields_at (standing past).frus) board
      fields =
          alike ∙ ap (λ fields_at. board_fields fields_at board) (ap entry_fields stood.entries ∙ fields_are (standing past).configs (standing past).frus)

  list_same : view_list watch ≡ boards_now past
  unfolding boards_now board_keys
  list_same = λ i. board_list (λ number. stood.kept number i) (keys_of (length (stood.configs i)) (λ number. same number i))
    where
      same : (number : ℕ) → view_boards watch number ≡ boards (standing past) number
      same = boards_are watch (standing past) stood.configs stood.entries

  boards_same : inventory_rows watch ≡ board_lists past
  unfolding board_lists
  boards_same =
      rows_alike (board_rows watch) (told_rows watch) (view_list watch) (all_told_rows watch)
      ∙ rows_alike (told_rows watch) (board_text (standing past).configs (standing past).frus (live_now past)) (view_list watch)
      (all_weaker _ _ board_same (view_list watch) (busy_alike watch.configs (kept_of watch.kept) (length watch.configs) watch.entries
      (known_by_place watch past stood.legal stood.entries)))
      ∙ ap (flat_map (board_text (standing past).configs (standing past).frus (live_now past))) list_same

-- ---- all topics

-- rows that are those of what is live
rows_of : {X R : Type 0} (text : R → List ℕ) (row : X → R) (xs : List X) → flat_map text (map row xs) ≡ flat_map (λ (x : X). text (row x)) xs
rows_of text row [] = refl
rows_of text row (x ∷ xs) = ap (λ (later : List ℕ). text (row x) ++ later) (rows_of text row xs)

zones_are : (zones : ZonesView) (sensors : LiveSensors) (past : List Step) → ZonesStand zones sensors past → zones_list zones ≡ zone_list past
unfolding zone_list
zones_are zones sensors past stood =
    ap₂ (λ (rows : List ZoneRow) (fans : List FanRow). flat_map zone_text rows ++ flat_map fan_text fans) stood.zone_rows stood.fan_rows
    ∙ ap₂ (λ (first later : List ℕ). first ++ later) (rows_of zone_text (zone_now past) (live_zones (live_now past)))
    (rows_of fan_text (fan_now past) (live_fans (live_now past)))

-- the entries that a log keeps are those of the history that are kept
log_is : (log : LogView) (past : List Step) → LogStands log past → log_rows (entries_of log) ≡ log_list past
unfolding log_list
log_is log past stood =
    ap log_rows (lists_all log (entries_of log) refl (entries past) stood.entries ∙ ap (λ (cap : ℕ). listed cap (entries past)) stood.cap)

pub lists_are : (topic : Topic) (core : CoreView) (past : List Step) → Stands core past → core_list topic core ≡ shown topic past
lists_are Frus core past stood = ap entry_rows stood.state.senses.watch.entries ∙ frus_are (standing past).configs (standing past).frus
lists_are Inventory core past stood = boards_same core.state.senses.watch past stood.state.senses.watch
lists_are Sensors core past stood =
    ap₂ (sensor_rows core.state.senses.sensors) stood.state.senses.ticks (live_is core.state.senses.watch past stood.state.senses.watch)
    ∙ sensors_are past core.state.senses.sensors stood.state.senses.sensors stood.state.senses.watch.legal
lists_are Zones core past stood = zones_are core.state.zones core.state.senses.sensors past stood.state.zones
lists_are Log core past stood = log_is core.log past stood.log
lists_are Indexes core past stood = indexes_are core.state.senses.watch past stood.state.senses.watch
