-- An item is live exactly if its id is among those of live items.
use Rattle.std.proofs.Common.{◌≡◌, ◌∙◌, ℕ, Bool, true, false, cond, ◌||◌, List, [], ◌∷◌, ◌++◌, filter, Option, Some, refl, sym}
use Rattle.std.proofs.Common.{ap, ap₂, length}
use Rattle.std.specs.List.{flat_map, AllByRecursion}
use Rattle.std.proofs.lemmas.Bool.{or_left, or_right}
use Rattle.fru_rows.specs.Idle.{busy}
use Rattle.cfg_json.specs.declared.item.Item.{Item}
use Rattle.cfg_json.specs.declared.item.ItemId.{ItemId}
use Rattle.inventory.specs.Indexes.{kept_of}
use Rattle.inventory.specs.Items.{entry_fields, exposes_of, id_eq, is_live, items, live}
use Rattle.inventory.specs.declared.board.Board.{Board}
use Rattle.inventory.specs.declared.board.BoardKey.{BoardKey}
use Rattle.inventory.proofs.IdsLemmas.{id_itself, id_same}
use Rattle.inventory.proofs.ListLemmas.{all_weaker}
use Rattle.bmc_report.specs.BoardRows.{board_row}
use Rattle.bmc_machine.specs.Boards.{name_of}
use Rattle.bmc_machine.specs.Lives.{has_id}
use Rattle.bmc_machine.specs.Shows.{item_text}
use Rattle.bmc_watch.specs.Watches.{WatchView, view_boards, view_items, view_list}
use Rattle.bmc_core.specs.Lists.{board_rows, item_line, item_rows, items_of}
use Rattle.bmc_core.proofs.BoardItemsLemmas.{IsOf, item_at, items_made, of_board}

-- ---- items that pass a test, where two with one id are one

module _ (test : Item → Bool) (at : ItemId → Option Item) where
  abbrev IsKnown : Item → Type 0
  IsKnown item = at item.id ≡ Some item

  -- the id of an item that fails is not among those that pass
  absent : (item : Item) → IsKnown item → test item ≡ false → (those : List Item) → AllByRecursion IsKnown those
      → has_id (filter test those) item.id ≡ false
  absent item is fails [] known = refl
  absent item is fails (first ∷ those) known = by (test first) refl (absent item is fails those known.1)
    where
      differs : (same : Bool) → id_eq first.id item.id ≡ same → test first ≡ true → same ≡ false
      differs false ids passes = refl
      differs true ids passes =
          let both : Some first ≡ Some item = sym known.0 ∙ ap at (id_same first.id item.id ids) ∙ is in
          let one : first ≡ item = cc in
          let no : true ≡ false = sym passes ∙ ap test one ∙ fails in
          absurd (cc)

      by : (passes : Bool) → test first ≡ passes → has_id (filter test those) item.id ≡ false
          → has_id (cond passes (first ∷ filter test those) (filter test those)) item.id ≡ false
      by true passes rest = ap₂ (λ (one other : Bool). one || other) (differs (id_eq first.id item.id) refl passes) rest
      by false fails rest = rest

  -- the id of one that passes is
  present : (those : List Item) → AllByRecursion (λ (item : Item). test item ≡ true → has_id (filter test those) item.id ≡ true) those
  present [] = tt
  present (first ∷ those) = (
    here (test first) refl,
    all_weaker (IsThere those) (IsThere (first ∷ those)) (λ item has passes. later item (test first) (has passes)) those (present those),
  )
    where
      IsThere : List Item → Item → Type 0
      IsThere those item = test item ≡ true → has_id (filter test those) item.id ≡ true

      here : (passes : Bool) → test first ≡ passes → passes ≡ true → has_id (cond passes (first ∷ filter test those) (filter test those)) first.id ≡ true
      here true is passes = or_left _ _ (id_itself first.id)
      here false is passes = absurd (cc)

      later : (item : Item) (passes : Bool) → has_id (filter test those) item.id ≡ true
          → has_id (cond passes (first ∷ filter test those) (filter test those)) item.id ≡ true
      later item true has = or_right _ _ has
      later item false has = has

  -- an item passes exactly if its id is among those that do
  passes_are : (those : List Item) → AllByRecursion IsKnown those → AllByRecursion (λ (item : Item). test item ≡ has_id (filter test those) item.id) those
  passes_are those known = both those known (present those)
    where
      of : (item : Item) → IsKnown item → (test item ≡ true → has_id (filter test those) item.id ≡ true) → (passes : Bool) → test item ≡ passes
          → passes ≡ has_id (filter test those) item.id
      of item is has true passes = sym (has passes)
      of item is has false fails = sym (absent item is fails those known)

      both : (some : List Item) → AllByRecursion IsKnown some
          → AllByRecursion (λ (item : Item). test item ≡ true → has_id (filter test those) item.id ≡ true) some
          → AllByRecursion (λ (item : Item). test item ≡ has_id (filter test those) item.id) some
      both [] known has = tt
      both (item ∷ some) known has = (of item known.0 has.0 (test item) refl, both some known.1 has.1)

-- ---- the items of all boards

module _ (watch : WatchView) where
  abbrev all : List Item
  all = view_items watch

  abbrev named : ItemId → Option Item
  named = item_at watch.configs (entry_fields (busy watch.entries)) (kept_of watch.kept)

  -- an item is the one that its id names, and live if its id is among those of live items
  record IsTold (item : Item) : Type 0 where
    known : named item.id ≡ Some item
    lives : is_live all item ≡ has_id (live all) item.id

  all_told : AllByRecursion IsTold all
  unfolding live
  all_told = both all made (passes_are (is_live all) named all made)
    where
      made : AllByRecursion (λ (item : Item). named item.id ≡ Some item) all
      made = items_made (kept_of watch.kept) (view_boards watch) (length watch.configs) watch.configs (entry_fields (busy watch.entries))

      both : (some : List Item) → AllByRecursion (λ (item : Item). named item.id ≡ Some item) some
          → AllByRecursion (λ (item : Item). is_live all item ≡ has_id (live all) item.id) some → AllByRecursion IsTold some
      both [] known lives = tt
      both (item ∷ some) known lives = (record { known = known.0; lives = lives.0 }, both some known.1 lives.1)

  -- the line of an item of a board
  line_is : (board : Board) (item : Item) → IsOf watch.configs (entry_fields (busy watch.entries)) board item → IsTold item
      → item_line (exposes_of watch.configs board.key.config) (is_live all item) item ≡ item_text watch.configs (live all) item
  line_is board item of told =
      ap₂ (λ (key : BoardKey) (is : Bool). item_line (exposes_of watch.configs key.config) is item) (sym of.key) told.lives

  lines_are : (board : Board) (some : List Item) → AllByRecursion (IsOf watch.configs (entry_fields (busy watch.entries)) board) some
      → AllByRecursion IsTold some
      → item_rows watch (exposes_of watch.configs board.key.config) some ≡ flat_map (item_text watch.configs (live all)) some
  lines_are board [] of told = refl
  lines_are board (item ∷ some) of told =
      ap₂ (λ (first later : List ℕ). first ++ later) (line_is board item of.0 told.0) (lines_are board some of.1 told.1)

  told_front : (some those : List Item) → AllByRecursion IsTold (some ++ those) → AllByRecursion IsTold some
  told_front [] those told = tt
  told_front (item ∷ some) those told = (told.0, told_front some those told.1)

  told_behind : (some those : List Item) → AllByRecursion IsTold (some ++ those) → AllByRecursion IsTold those
  told_behind [] those told = told
  told_behind (item ∷ some) those told = told_behind some those told.1

  -- the row of a board, and those of its items, each by whether its id is among those of live items
  abbrev pub told_rows : Board → List ℕ
  told_rows board =
      board_row (name_of watch.configs board.key.config) board.index board.key.place
      ++ flat_map (item_text watch.configs (live all)) (items_of watch board)

  boards_told : (boards : List Board) → AllByRecursion IsTold (items watch.configs (entry_fields (busy watch.entries)) boards)
      → AllByRecursion (λ (board : Board). board_rows watch board ≡ told_rows board) boards
  unfolding items
  boards_told [] told = tt
  boards_told (board ∷ boards) told =
      let here = items_of watch board in
      let those = items watch.configs (entry_fields (busy watch.entries)) boards in (
        ap (λ (lines : List ℕ). board_row (name_of watch.configs board.key.config) board.index board.key.place ++ lines)
            (lines_are board here (of_board watch.configs (entry_fields (busy watch.entries)) board) (told_front here those told)),
        boards_told boards (told_behind here those told),
      )

  pub all_told_rows : AllByRecursion (λ (board : Board). board_rows watch board ≡ told_rows board) (view_list watch)
  all_told_rows = boards_told (view_list watch) all_told
