-- Boards with their items.
use Rattle.std.specs.Prelude.{◌≡◌, ◌<◌, ◌⊎◌, ◌++◌, Bool, false, not, if◌then◌else◌, List, [], ◌∷◌, filter, map, length, Option, Some, None}
use Rattle.std.specs.List.{All, AllByRecursion, flat_map, list_any}
use Rattle.std.specs.List.Sorted.{IsStrictlySortedBy}
use Rattle.std.specs.Ordering.{is_lt}
use Rattle.cfg_json.specs.declared.item.Item.{Item}
use Rattle.cfg_json.specs.declared.item.ItemId.{ItemId}
use Rattle.inventory.specs.Follows.{key_eq}
use Rattle.inventory.specs.Items.{id_eq, IsValidItem}
use Rattle.inventory.specs.Orders.{exposer, key_cmp, AreById}
use Rattle.inventory.specs.declared.board.BoardKey.{BoardKey}
use Rattle.inventory.specs.declared.shown.Shown.{Shown}

-- the items of these boards
abbrev pub items_of : List Shown → List Item
items_of boards = flat_map (λ (board : Shown). board.items.items) boards

-- a board has items, which are its own, ascend and are valid
pub record IsShown (board : Shown) : Type 0 where
  pub own : AllByRecursion (λ (item : Item). exposer item.id ≡ board.key) board.items.items
  pub order : AreById board.items.items
  pub some : 0 < length board.items.items
  pub valid : All IsValidItem board.items.items

-- each board comes before those behind it
abbrev pub AreOrdered : List Shown → Type 0
AreOrdered boards = IsStrictlySortedBy key_cmp (map (λ (board : Shown). board.key) boards)

-- each board comes before those behind it, and has items
pub record AreShown (boards : List Shown) : Type 0 where
  pub order : AreOrdered boards
  pub each : AllByRecursion IsShown boards

-- with a board before the first that does not come before it
abbrev pub with_shown : Shown → List Shown → List Shown
with_shown board [] = board ∷ []
with_shown board (first ∷ boards) = if is_lt (key_cmp first.key board.key) then first ∷ with_shown board boards else board ∷ first ∷ boards

abbrev pub with_all : List Shown → List Shown → List Shown
with_all [] boards = boards
with_all (board ∷ more) boards = with_shown board (with_all more boards)

-- without the boards that have these keys
abbrev pub without_keys : List BoardKey → List Shown → List Shown
without_keys keys boards = filter (λ (board : Shown). not (list_any (key_eq board.key) keys)) boards

-- the boards where these go and those come
abbrev pub boards_after : List BoardKey → List Shown → List Shown → List Shown
boards_after gone new boards = with_all new (without_keys gone boards)

-- whether this is a board
abbrev pub is_board : BoardKey → Option Shown → Bool
is_board key None = false
is_board key (Some board) = key_eq key board.key

-- whether this is an item
abbrev pub is_item_at : ItemId → Option Item → Bool
is_item_at id None = false
is_item_at id (Some item) = id_eq id item.id

-- a board is shown behind others, if it has items
abbrev pub ShowsMore : List Shown → BoardKey → List Item → List Shown → Type 0
ShowsMore boards key items more =
    ((items ≡ []) × (more ≡ boards))
    ⊎ ((board : Shown) × (board.key ≡ key) × (board.items.items ≡ items) × IsShown board × (more ≡ boards ++ board ∷ []))
