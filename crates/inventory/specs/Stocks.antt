-- What holds inside a stock.
use Rattle.std.specs.Prelude.{◌≡◌, ◌+◌, ◌≤◌, ⊤, Bool, true, List, length, Option, Some, None, option_map}
use Rattle.std.specs.Global.{Vec}
use Rattle.std.specs.Vec.{vec_len, vec_capacity}
use Rattle.indexmap.specs.IndexMap.{IndexMap, spare}
use Rattle.cfg_json.specs.declared.item.ItemId.{ItemId}
use Rattle.inventory.specs.Bearers.{ids_in, ids_over, is_bearer, AreBorne, HaveOwnNames, Lists}
use Rattle.inventory.specs.Follows.{Stock}
use Rattle.inventory.specs.Leads.{AreFirst}
use Rattle.inventory.specs.Shown.{items_of, boards_after, AreShown}
use Rattle.inventory.specs.declared.tag.Tag.{Tag}
use Rattle.inventory.specs.declared.tags.Notes.{Notes}
use Rattle.inventory.specs.declared.shown.Shown.{Shown}
use Rattle.inventory.specs.declared.stock.Staged.{Staged}

-- the boards behind what is staged
abbrev pub boards_behind : List Shown → Staged → List Shown
boards_behind boards staged = boards_after staged.gone.items staged.new.items boards

-- what is seen of a stock
abbrev pub stock_of : Vec Shown → Option Staged → Stock
stock_of boards staged =
    record { items = items_of boards.items; staged = option_map (λ (staged : Staged). items_of (boards_behind boards.items staged)) staged }

-- the ids that are kept for each tag are those of its bearers
abbrev pub AreKept : List (Tag × List ItemId) → List Shown → Type 0
AreKept tags boards = (tag : Tag) → Lists (ids_in tags tag) (is_bearer (items_of boards) tag)

-- the ids that are noted for tags, so that those for each tag pass its test, and beside each noted tag the first id that is kept for it
pub record AreNoted (notes : Notes) (tags : List (Tag × List ItemId)) (test : Tag → ItemId → Bool) : Type 0 where
  pub borne : AreBorne notes.over.entries tags test
  pub firsts : AreFirst notes tags

-- there is room for what is staged, with what is noted over the tags, which leaves all as it should be
pub record IsReady {S : Type 0} (boards : Vec Shown) (tags : IndexMap Tag (List ItemId) S) (over : List (Tag × List ItemId)) (staged : Staged) : Type 0 where
  pub room : vec_len boards + vec_len staged.new ≤ vec_capacity boards
  pub room_tags : length over ≤ spare tags
  pub shown : AreShown (boards_behind boards.items staged)
  pub borne : AreBorne over tags.entries (is_bearer (items_of (boards_behind boards.items staged)))
  pub names : staged.own_names ≡ true → HaveOwnNames (ids_over over tags.entries)

abbrev pub IsReadyIf : {S : Type 0} → Vec Shown → IndexMap Tag (List ItemId) S → List (Tag × List ItemId) → Option Staged → Type 0
IsReadyIf boards tags over None = ⊤
IsReadyIf boards tags over (Some staged) = IsReady boards tags over staged

-- what holds inside a stock; where it says that names are the items' own, no name in a family is borne by several
pub record IsSound {S : Type 0} (boards : Vec Shown) (tags : IndexMap Tag (List ItemId) S) (over : List (Tag × List ItemId)) (staged : Option Staged)
    (own_names : Bool) : Type 0 where
  pub shown : AreShown boards.items
  pub kept : AreKept tags.entries boards.items
  pub ready : IsReadyIf boards tags over staged
  pub names : own_names ≡ true → HaveOwnNames (ids_in tags.entries)
