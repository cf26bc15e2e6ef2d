-- What holds of boards and their indexes.
use Rattle.std.specs.Prelude.{ℕ, ◌≡◌, Bool, true, List, ◌++◌, map, filter_map, Option}
use Rattle.std.specs.Option.{option_eq, option_cmp}
use Rattle.std.specs.List.{IsDistinct}
use Rattle.std.specs.List.Sorted.{IsStrictlySortedBy}
use Rattle.bmc_base.specs.Places.{Place, place_cmp, place_eq}
use Rattle.fru_area.specs.declared.field.Field.{Field}
use Rattle.probe_lang.specs.Sights.{Sight}
use Rattle.cfg_json.specs.Configs.{Config}
use Rattle.cfg_json.specs.declared.item.Item.{Item}
use Rattle.inventory.specs.declared.board.Board.{Board}
use Rattle.inventory.specs.Boards.{has_board, board_places}
use Rattle.inventory.specs.Indexes.{except, with_boards, index_of}
use Rattle.inventory.specs.Lists.{keys_of, board_list}
use Rattle.inventory.specs.Items.{items, live, borne_name, same_name}
use Rattle.inventory.specs.Orders.{AreByKey, AreById, HaveOwnIds}

-- boards that differ are kept behind the others, those alone that are new
abbrev pub KeepsNew : Type 0
KeepsNew = (kept places : List (Option Place)) → IsDistinct (option_eq place_eq) places → with_boards kept places ≡ kept ++ except (has_board kept) places

-- a board that is kept has its index for good
abbrev pub IndexStays : Type 0
IndexStays =
    (kept places : List (Option Place)) (place : Option Place) → has_board kept place ≡ true → index_of (with_boards kept places) place ≡ index_of kept place

-- where FRUs are seen by place, the boards of each configuration ascend by place
abbrev pub BoardsAscend : Type 0
BoardsAscend = (configs : List Config) (found reach : ℕ → Bool) (sights : List Sight) (number : ℕ)
    → IsStrictlySortedBy place_cmp (map (λ (sight : Sight). sight.place) sights)
    → IsStrictlySortedBy (option_cmp place_cmp) (board_places configs found reach sights number)

-- where the boards of each configuration ascend by place, the list of all ascends by configuration and place
abbrev pub BoardListAscends : Type 0
BoardListAscends = (kept boards : ℕ → List (Option Place)) (count : ℕ)
    → ((number : ℕ) → IsStrictlySortedBy (option_cmp place_cmp) (boards number)) → AreByKey (board_list kept (keys_of count boards))

-- the items of boards that ascend by configuration and place ascend by board and expose
abbrev pub ItemsAscend : Type 0
ItemsAscend = (configs : List Config) (fields_at : Place → Option (List Field)) (boards : List Board) → AreByKey boards
    → AreById (items configs fields_at boards)

-- no two of them have one id
abbrev pub ItemsDiffer : Type 0
ItemsDiffer = (configs : List Config) (fields_at : Place → Option (List Field)) (boards : List Board) → AreByKey boards
    → HaveOwnIds (items configs fields_at boards)

-- live items ascend where all do
abbrev pub LiveAscend : Type 0
LiveAscend = (items : List Item) → AreById items → AreById (live items)

-- where no two items have one id, no two live items of one family have one name
abbrev pub NamesDiffer : Type 0
NamesDiffer = (items : List Item) → HaveOwnIds items → IsDistinct same_name (filter_map borne_name (live items))
