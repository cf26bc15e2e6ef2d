-- The items of one moment behind those of another.
use Rattle.std.specs.Prelude.{ℕ, ◌≡◌, ◌==◌, Bool, not, ◌&&◌, if◌then◌else◌, List, [], filter, find, length, Option, Some, None}
use Rattle.std.specs.Option.{option_eq}
use Rattle.std.specs.List.{list_any}
use Rattle.std.specs.List.Sorted.{IsStrictlySortedBy}
use Rattle.bmc_base.specs.Places.{Place, place_eq}
use Rattle.cfg_json.specs.declared.item.Item.{Item}
use Rattle.cfg_json.specs.declared.item.ItemId.{ItemId}
use Rattle.inventory.specs.Differences.{places_of}
use Rattle.inventory.specs.Indexes.{kept_of, with_boards}
use Rattle.inventory.specs.Items.{id_eq}
use Rattle.inventory.specs.Orders.{exposer, key_cmp, AreById}
use Rattle.inventory.specs.declared.board.BoardKey.{BoardKey}

abbrev pub key_eq : BoardKey → BoardKey → Bool
key_eq key other = key.config == other.config && option_eq place_eq key.place other.place

-- whether an item is on one of these boards
abbrev pub is_on : List BoardKey → Item → Bool
is_on keys item = list_any (key_eq (exposer item.id)) keys

-- the items that are on these boards, and those that are on others
abbrev pub on : List BoardKey → List Item → List Item
on keys items = filter (is_on keys) items

abbrev pub off : List BoardKey → List Item → List Item
off keys items = filter (λ item. not (is_on keys item)) items

-- each key comes before those behind it
abbrev pub AreKeysAscending : List BoardKey → Type 0
AreKeysAscending keys = IsStrictlySortedBy key_cmp keys

-- What boards go and come is all that changes: `old` without the boards that go is `next` without those that come, on which
-- `next` has these items and `old` has none.
pub record Follows (gone new : List BoardKey) (old coming next : List Item) : Type 0 where
  pub order : AreById next
  pub stay : off gone old ≡ off new next
  pub come : on new next ≡ coming
  pub fresh : on new old ≡ []
  pub left : on gone next ≡ []

-- the boards that are kept, with new ones behind them
abbrev pub kept_with : List (List (Option Place)) → List BoardKey → ℕ → List (Option Place)
kept_with kept new number = with_boards (kept_of kept number) (places_of number new)

-- what is seen of a stock: its items, and those that are staged
pub record Stock : Type 0 where
  pub items : List Item
  pub staged : Option (List Item)

-- the item with an id
abbrev pub item_of : List Item → ItemId → Option Item
item_of items id = find (λ (item : Item). id_eq id item.id) items

-- the last index of the boards of a configuration, where this is the last of one with a number, and those of any other are kept
abbrev pub last_of : List (List (Option Place)) → Option ℕ → ℕ → ℕ → ℕ
last_of kept None last config = length (kept_of kept config)
last_of kept (Some number) last config = if number == config then last else length (kept_of kept config)
