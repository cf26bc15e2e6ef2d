-- Where what configurations expose is valid, so are the live items, and with them the controllers and the zones.
use Rattle.std.proofs.Common.{ℕ, zero, suc, List, [], ◌∷◌, subst}
use Rattle.std.specs.List.{All, AllByRecursion, flat_map}
use Rattle.std.proofs.lemmas.List.Elements.{All-nil, All-append, All-filter, recursion_from_All}
use Rattle.bmc_base.specs.Places.{Place}
use Rattle.fru_area.specs.declared.field.Field.{Field}
use Rattle.std.specs.Prelude.{Option}
use Rattle.cfg_json.specs.Configs.{Config, IsValidConfig, IsValidExpose, IsValidZone}
use Rattle.cfg_json.specs.declared.item.Item.{Item}
use Rattle.inventory.specs.Items.{exposes_of, board_fields, board_items, items, is_live, live, IsValidItem, IsValidPart}
use Rattle.inventory.specs.declared.board.Board.{Board}
use Rattle.inventory.proofs.ValidLemmas.{rendered_valid}
use Rattle.fan_zone.specs.Live.{LiveControl, controls, LiveZone, zones}
use Rattle.fan_zone.specs.Seats.{IsValidControl}
use Rattle.bmc_machine.specs.Boards.{fields_at}
use Rattle.bmc_machine.specs.Histories.{Step, standing}
use Rattle.bmc_machine.specs.Indexes.{boards_now, items_now, live_now}
use Rattle.bmc_machine.proofs.LiveViewLemmas.{IsControl, controls_all, zones_all}

-- ---- items

exposes_valid : (configs : List Config) (number : ℕ) → AllByRecursion IsValidConfig configs → All IsValidExpose (exposes_of configs number)
exposes_valid [] number valid = All-nil IsValidExpose
exposes_valid (config ∷ configs) zero valid = valid.0
exposes_valid (config ∷ configs) (suc number) valid = exposes_valid configs number valid.1

boards_valid : (configs : List Config) (fields_in : Place → Option (List Field)) (boards : List Board) → AllByRecursion IsValidConfig configs
    → All IsValidItem (flat_map (board_items configs fields_in) boards)
boards_valid configs fields_in [] valid = All-nil IsValidItem
boards_valid configs fields_in (board ∷ boards) valid =
    All-append IsValidItem (board_items configs fields_in board) (flat_map (board_items configs fields_in) boards)
    (rendered_valid board (board_fields fields_in board) 0 (exposes_of configs board.key.config) (exposes_valid configs board.key.config valid))
    (boards_valid configs fields_in boards valid)

pub live_valid : (past : List Step) → All IsValidConfig (standing past).configs → All IsValidItem (live_now past)
unfolding live_now live items_now items
live_valid past valid =
    All-filter (is_live (items_now past)) IsValidItem (items_now past)
    (boards_valid (standing past).configs (fields_at (standing past).frus) (boards_now past)
    (recursion_from_All IsValidConfig (standing past).configs valid))

-- ---- controllers and zones

-- those of valid items
pub valid_controls : (items : List Item) → All IsValidItem items → All IsValidControl (controls items)
valid_controls items valid =
    controls_all IsValidControl IsValidItem by items (recursion_from_All IsValidItem items valid)
  where
    by : (item : Item) (control : LiveControl) → IsValidItem item → IsControl item control → IsValidControl control
    by item control valid is =
        let numbers = subst IsValidPart is.part valid in
        record { setting = numbers.setting; inputs = numbers.inputs }

pub valid_zones : (items : List Item) → All IsValidItem items → All (λ (zone : LiveZone). IsValidZone zone.setting) (zones items)
valid_zones items valid =
    zones_all (λ (zone : LiveZone). IsValidZone zone.setting) IsValidItem (λ item zone valid is. subst IsValidPart is.part valid) items
    (recursion_from_All IsValidItem items valid)

-- those of a history
pub controls_valid : (past : List Step) → All IsValidConfig (standing past).configs → All IsValidControl (controls (live_now past))
controls_valid past valid = valid_controls (live_now past) (live_valid past valid)

pub zones_valid : (past : List Step) → All IsValidConfig (standing past).configs → All (λ (zone : LiveZone). IsValidZone zone.setting) (zones (live_now past))
zones_valid past valid = valid_zones (live_now past) (live_valid past valid)
