-- The order of boards and of items.
use Rattle.std.specs.Prelude.{List, map}
use Rattle.std.specs.Option.{option_cmp}
use Rattle.std.specs.Ordering.{nat_cmp, ordering_then}
use Rattle.std.specs.declared.cmp.Ordering.{Ordering}
use Rattle.std.specs.List.{IsDistinct}
use Rattle.std.specs.List.Sorted.{IsStrictlySortedBy}
use Rattle.bmc_base.specs.Places.{place_cmp}
use Rattle.cfg_json.specs.declared.item.ItemId.{ItemId}
use Rattle.cfg_json.specs.declared.item.Item.{Item}
use Rattle.inventory.specs.declared.board.BoardKey.{BoardKey}
use Rattle.inventory.specs.declared.board.Board.{Board}
use Rattle.inventory.specs.Items.{id_eq}

-- by configuration, and then by place; none comes first
abbrev pub key_cmp : BoardKey → BoardKey → Ordering
key_cmp key other = ordering_then (nat_cmp key.config other.config) (option_cmp place_cmp key.place other.place)

-- the board that exposes an item
abbrev pub exposer : ItemId → BoardKey
exposer id = record { config = id.config; place = id.place }

-- by board, and then by expose
abbrev pub id_cmp : ItemId → ItemId → Ordering
id_cmp id other = ordering_then (key_cmp (exposer id) (exposer other)) (nat_cmp id.expose other.expose)

-- each board comes before those behind it
abbrev pub AreByKey : List Board → Type 0
AreByKey boards = IsStrictlySortedBy key_cmp (map (λ (board : Board). board.key) boards)

-- each item comes before those behind it
abbrev pub AreById : List Item → Type 0
AreById items = IsStrictlySortedBy id_cmp (map (λ (item : Item). item.id) items)

-- no two items have one id
abbrev pub HaveOwnIds : List Item → Type 0
HaveOwnIds items = IsDistinct id_eq (map (λ (item : Item). item.id) items)
