-- The boards that are listed of a moment, and what one of them exposes.
use Rattle.std.proofs.Common.{◌≡◌, ◌∙◌, ℕ, List, [], ◌∷◌, map, length, Bool, true, Option, sym, ap, ap₂, append-nil}
use Rattle.bmc_base.specs.Places.{Place}
use Rattle.fru_area.specs.declared.field.Field.{Field}
use Rattle.probe_lang.specs.Sights.{entry_sight}
use Rattle.probe_lang.specs.declared.rows.Entry.{Entry}
use Rattle.cfg_json.specs.Configs.{Config}
use Rattle.fru_rows.specs.Idle.{busy}
use Rattle.found_set.specs.Found.{is_found, is_reached}
use Rattle.inventory.specs.Boards.{boards_in, has_board, rules_of}
use Rattle.inventory.specs.Differences.{Moment, boards_at}
use Rattle.inventory.specs.Indexes.{kept_of, with_boards}
use Rattle.inventory.specs.Inventories.{kept_then, moment_keys}
use Rattle.inventory.specs.Items.{board_items, items}
use Rattle.inventory.specs.Lists.{board_list, keys_of}
use Rattle.inventory.specs.declared.board.Board.{Board}
use Rattle.bmc_watch.proofs.EventsLemmas.{IsSeen, boards_seen}
use Rattle.bmc_watch.proofs.IdleLemmas.{except_self}
use Rattle.bmc_watch.proofs.StockLemmas.{with_new}

-- what is found and reachable over the busy ones of these FRUs
abbrev pub found_of : List Config → List Entry → ℕ → Bool
found_of configs entries = is_found (rules_of configs) (map entry_sight (busy entries))

abbrev pub reach_of : List Config → List Entry → ℕ → Bool
reach_of configs entries = is_reached (rules_of configs) (map entry_sight (busy entries))

-- boards that are kept already leave those that are kept
with_kept : (kept boards : List (Option Place)) → ((place : Option Place) → has_board boards place ≡ true → has_board kept place ≡ true)
    → with_boards kept boards ≡ kept
with_kept kept boards all = sym (with_new kept boards boards all) ∙ ap (with_boards kept) (except_self boards)

-- where all boards are kept, what is listed of a moment has the indexes that are kept
pub boards_listed : (configs : List Config) (entries : List Entry) (kept : List (List (Option Place)))
    → ((number : ℕ) (place : Option Place) → has_board (boards_in configs (map entry_sight entries) number) place ≡ true
    → has_board (kept_of kept number) place ≡ true)
    → (moment : Moment) (list : List Board) → IsSeen configs entries moment
    → list ≡ board_list (kept_then kept configs (found_of configs entries) (reach_of configs entries) moment)
    (moment_keys configs (found_of configs entries) (reach_of configs entries) moment)
    → list ≡ board_list (kept_of kept) (keys_of (length configs) (boards_in configs (map entry_sight entries)))
boards_listed configs entries kept all moment list shows is =
    is ∙ ap₂ (λ (kept boards : ℕ → List (Option Place)). board_list kept (keys_of (length configs) boards)) kept_same same
  where
    same : boards_at configs (found_of configs entries) (reach_of configs entries) moment ≡ boards_in configs (map entry_sight entries)
    same = boards_seen configs entries moment shows

    kept_same : kept_then kept configs (found_of configs entries) (reach_of configs entries) moment ≡ kept_of kept
    kept_same =
        λ i number.
        (ap (λ (boards : ℕ → List (Option Place)). with_boards (kept_of kept number) (boards number)) same
        ∙ with_kept (kept_of kept number) (boards_in configs (map entry_sight entries) number) (all number)) i

-- what one board exposes
pub one_board : (configs : List Config) (fields_at : Place → Option (List Field)) (board : Board)
    → items configs fields_at (board ∷ []) ≡ board_items configs fields_at board
unfolding items
one_board configs fields_at board = append-nil (board_items configs fields_at board)
