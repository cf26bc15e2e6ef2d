-- What a run knows of what has happened, and when it stands for a history.
use Rattle.std.specs.Prelude.{ℕ, ◌≡◌, Bool, false, List, [], map, length, Option, option_map}
use Rattle.bmc_base.specs.Places.{Place}
use Rattle.probe_lang.specs.declared.rows.Entry.{Entry}
use Rattle.probe_lang.specs.Sights.{entry_sight}
use Rattle.cfg_json.specs.Configs.{Config}
use Rattle.match_rows.specs.Matching.{entry_of}
use Rattle.cfg_json.specs.declared.item.Item.{Item}
use Rattle.fru_rows.specs.Idle.{busy}
use Rattle.inventory.specs.Boards.{boards_in, has_board}
use Rattle.inventory.specs.Indexes.{kept_of, except, with_boards}
use Rattle.inventory.specs.Items.{entry_fields, items, live}
use Rattle.inventory.specs.Limits.{passed_limit}
use Rattle.inventory.specs.Lists.{keys_of, board_list}
use Rattle.inventory.specs.Naming.{naming_items}
use Rattle.inventory.specs.declared.board.Board.{Board}
use Rattle.inventory.specs.declared.board.BoardKey.{BoardKey}
use Rattle.inventory.specs.declared.fault.InventoryFault.{InventoryFault}
use Rattle.bmc_report.specs.declared.refusal.Refusal.{Refusal}
use Rattle.bmc_report.specs.declared.change.Change.{Change}
use Rattle.bmc_machine.specs.Standings.{Fru, fields_of}
use Rattle.bmc_machine.specs.Histories.{Step, standing}
use Rattle.bmc_machine.specs.Indexes.{kept}
use Rattle.bmc_machine.specs.Refusals.{limit_refusal, IsLegal}
use Rattle.bmc_machine.specs.Changes.{Inventory, changes_between}

-- The configurations, the FRUs that are present with what matches them, whether any FRU was ever plugged, the boards that each
-- configuration ever had, and the changes of the last step.
pub record WatchView : Type 0 where
  pub configs : List Config
  pub entries : List Entry
  pub plugged : Bool
  pub kept : List (List (Option Place))
  pub changes : List Change

-- nothing has happened
abbrev pub no_view : WatchView
no_view = record { configs = []; entries = []; plugged = false; kept = []; changes = [] }

-- all is as it was; what is kept is so by number
pub record IsSame (old new : WatchView) : Type 0 where
  pub configs : new.configs ≡ old.configs
  pub entries : new.entries ≡ old.entries
  pub plugged : new.plugged ≡ old.plugged
  pub kept : (number : ℕ) → kept_of new.kept number ≡ kept_of old.kept number
  pub changes : new.changes ≡ old.changes

-- what is known of a FRU that is present
abbrev pub fru_entry : List Config → Fru → Entry
fru_entry configs fru = entry_of configs fru.place (fields_of fru)

-- the boards of each configuration, by what is known of the FRUs
abbrev pub view_boards : WatchView → ℕ → List (Option Place)
view_boards view number = boards_in view.configs (map entry_sight view.entries) number

-- their keys, and the list of them with their indexes
abbrev pub view_keys : WatchView → List BoardKey
view_keys view = keys_of (length view.configs) (view_boards view)

abbrev pub view_list : WatchView → List Board
view_list view = board_list (kept_of view.kept) (view_keys view)

-- what they expose; FRUs that are idle have no boards
abbrev pub view_items : WatchView → List Item
view_items view = items view.configs (entry_fields (busy view.entries)) (view_list view)

-- those of these items that may be live
abbrev pub view_shown : WatchView → List Item
view_shown view = naming_items view.configs (kept_of view.kept) (entry_fields (busy view.entries)) (view_keys view)

abbrev pub view_inventory : WatchView → Inventory
view_inventory view =
    record { configs = view.configs; boards = view_boards view; kept = kept_of view.kept; live = live (view_items view) }

-- the first limit that the boards pass, and the refusal by it
abbrev pub view_passed : WatchView → Option InventoryFault
view_passed view = passed_limit view.configs (view_keys view)

abbrev pub view_refusal : WatchView → Option Refusal
view_refusal view = option_map limit_refusal (view_passed view)

-- what is known is what a history leaves, and all boards that each configuration ever had in it
pub record WatchStands (view : WatchView) (past : List Step) : Type 0 where
  pub legal : IsLegal past
  pub configs : view.configs ≡ (standing past).configs
  pub entries : view.entries ≡ map (fru_entry (standing past).configs) (standing past).frus
  pub plugged : view.plugged ≡ (standing past).plugged
  pub kept : (number : ℕ) → kept_of view.kept number ≡ kept past number

-- From one state to the next: the boards that are new are kept behind the others, and the changes are those of the boards.
pub record Moves (old new : WatchView) : Type 0 where
  pub kept : (number : ℕ)
      → kept_of new.kept number ≡ with_boards (kept_of old.kept number) (except (has_board (view_boards old number)) (view_boards new number))
  pub changes : new.changes ≡ changes_between (view_inventory old) (view_inventory new)
