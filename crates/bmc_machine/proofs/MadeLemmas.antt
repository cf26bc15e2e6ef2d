-- What an item is made of: it is the one that its id names, at a board that is there.
use Rattle.std.proofs.Common.{◌≡◌, ℕ, suc, ◌+◌, List, [], ◌∷◌, true, Option, Some, None, option_map, map}
use Rattle.std.proofs.Common.{refl, sym, ap, ◌∙◌, subst, arith, slice_get}
use Rattle.std.specs.Prelude.{⊤, length, filter_map, option_and_then}
use Rattle.std.specs.List.{AllByRecursion, Contains, enumerate_from, cons_option, range_with_len}
use Rattle.std.proofs.lemmas.Bool.{or_left, or_right}
use Rattle.std.proofs.lemmas.List.Elements.{All-from_recursion, All-contains}
use Rattle.bmc_base.specs.Places.{Place}
use Rattle.fru_area.specs.declared.field.Field.{Field}
use Rattle.cfg_json.specs.declared.expose.Expose.{Expose}
use Rattle.cfg_json.specs.declared.item.Item.{Item}
use Rattle.cfg_json.specs.declared.item.ItemId.{ItemId}
use Rattle.cfg_json.specs.declared.item.ItemPart.{ItemPart}
use Rattle.tmpl.specs.Rendering.{rendered}
use Rattle.inventory.specs.Boards.{has_board}
use Rattle.inventory.specs.Differences.{key_of}
use Rattle.inventory.specs.Items.{exposes_of, board_fields, part_of, rendered_item, board_items, items}
use Rattle.inventory.specs.Lists.{keys_of, board_of}
use Rattle.inventory.specs.Orders.{exposer}
use Rattle.inventory.specs.declared.board.Board.{Board}
use Rattle.inventory.proofs.AscendLemmas.{all_flat_map}
use Rattle.inventory.proofs.BoardLemmas.{board_itself}
use Rattle.inventory.proofs.ListLemmas.{all_any, all_map, all_weaker}
use Rattle.bmc_machine.specs.Boards.{boards, board_keys, fields_at}
use Rattle.bmc_machine.specs.Histories.{Step, standing}
use Rattle.bmc_machine.specs.Indexes.{kept, boards_now, items_now}

-- ---- lists

-- what holds of each element with its position, if it holds of what is there at a position
all_enumerated : {X : Type 0} (Fact : ℕ × X → Type 0) (start : ℕ) (xs : List X)
    → ((i position : ℕ) (x : X) → start + i ≡ position → slice_get xs i ≡ Some x → Fact (position, x)) → AllByRecursion Fact (enumerate_from start xs)
all_enumerated Fact start [] fact = tt
all_enumerated Fact start (first ∷ xs) fact = (
  fact 0 start first (omega arith) refl,
  all_enumerated Fact (start + 1) xs (λ i position x is at. fact (suc i) position x (omega (arith, is)) at),
)

pub all_filter_map : {X Y : Type 0} (Fact : Y → Type 0) (Cause : X → Type 0) (image : X → Option Y)
    → ((x : X) → Cause x → (y : Y) → image x ≡ Some y → Fact y) → (xs : List X) → AllByRecursion Cause xs → AllByRecursion Fact (filter_map image xs)
all_filter_map Fact Cause image gives [] causes = tt
all_filter_map {X} {Y} Fact Cause image gives (first ∷ xs) causes =
    by (image first) (gives first causes.0) (all_filter_map Fact Cause image gives xs causes.1)
  where
    by : (made : Option Y) → ((y : Y) → made ≡ Some y → Fact y) → AllByRecursion Fact (filter_map image xs)
        → AllByRecursion Fact (cons_option made (filter_map image xs))
    by None gives rest = rest
    by (Some y) gives rest = (gives y refl, rest)

all_has : (boards : List (Option Place)) → AllByRecursion (λ place. has_board boards place ≡ true) boards
all_has [] = tt
all_has (board ∷ boards) = (or_left _ _ (board_itself board), all_weaker _ _ (λ place has. or_right _ _ has) boards (all_has boards))

-- ---- boards and items

-- the item that an id names after a history, if there is one
abbrev pub item_at : List Step → ItemId → Option Item
item_at past id =
    option_and_then
    (λ expose. rendered_item (board_of (kept past) (exposer id)) (option_and_then (fields_at (standing past).frus) id.place) (id.expose, expose))
    (slice_get (exposes_of (standing past).configs id.config) id.expose)

-- a board that is there, with its index
abbrev IsBoard : List Step → Board → Type 0
IsBoard past board = (board ≡ board_of (kept past) board.key) × (has_board (boards (standing past) board.key.config) board.key.place ≡ true)

pub record IsItem (past : List Step) (item : Item) : Type 0 where
  pub board : has_board (boards (standing past) item.id.config) item.id.place ≡ true
  pub made : item_at past item.id ≡ Some item

module _ (past : List Step) where
  boards_are : AllByRecursion (IsBoard past) (boards_now past)
  unfolding boards_now board_keys
  boards_are =
      all_map _ (board_of (kept past)) (keys_of (length (standing past).configs) (boards (standing past)))
      (all_flat_map _ (λ number. ⊤) (λ number. map (key_of number) (boards (standing past) number))
      (λ number any. all_map _ (key_of number) (boards (standing past) number)
      (all_weaker _ _ (λ place has. (refl, has)) (boards (standing past) number) (all_has (boards (standing past) number))))
      (range_with_len 0 (length (standing past).configs)) (all_any _ (λ number. tt) (range_with_len 0 (length (standing past).configs))))

  module _ (board : Board) (is : IsBoard past board) where
    abbrev exposes : List Expose
    exposes = exposes_of (standing past).configs board.key.config

    abbrev fields : Option (List Field)
    fields = board_fields (fields_at (standing past).frus) board

    abbrev id_at : ℕ → ItemId
    id_at position = record { config = board.key.config; place = board.key.place; expose = position }

    -- what is rendered of an expose has the id of its position there
    has_id : (name : Option (List ℕ)) (part : Option ItemPart) (position : ℕ) (item : Item)
        → option_and_then (λ name. option_map (λ part. record { id = id_at position; name = name; part = part }) part) name ≡ Some item
        → item.id ≡ id_at position
    has_id None part position item made = absurd (cc)
    has_id (Some name) None position item made = absurd (cc)
    has_id (Some name) (Some part) position item made = cc

    of_expose : (each : ℕ × Expose) → slice_get exposes each.0 ≡ Some each.1 → (item : Item) → rendered_item board fields each ≡ Some item → IsItem past item
    of_expose (position, expose) at item made =
        let id : item.id ≡ id_at position = has_id (rendered board.key.place fields board.index expose.name)
        (part_of board.key.place fields board.index expose.body) position item made in
        record {
          board = subst (λ (id : ItemId). has_board (boards (standing past) id.config) id.place ≡ true) (sym id) is.1;
          made = subst (λ (id : ItemId). item_at past id ≡ Some item) (sym id)
              (ap (option_and_then (λ (expose : Expose). rendered_item (board_of (kept past) board.key) fields (position, expose))) at
              ∙ ap (λ (it : Board). rendered_item it fields (position, expose)) (sym is.0) ∙ made);
        }

    of_board : AllByRecursion (IsItem past) (board_items (standing past).configs (fields_at (standing past).frus) board)
    of_board =
        all_filter_map (IsItem past) (λ (each : ℕ × Expose). slice_get exposes each.0 ≡ Some each.1) (rendered_item board fields) of_expose
        (enumerate_from 0 exposes)
        (all_enumerated _ 0 exposes (λ i position expose is at. let same : i ≡ position = omega (arith, is) in ap (slice_get exposes) (sym same) ∙ at))

  pub items_are : AllByRecursion (IsItem past) (items_now past)
  unfolding items_now items
  items_are =
      all_flat_map (IsItem past) (IsBoard past) (board_items (standing past).configs (fields_at (standing past).frus)) of_board (boards_now past) boards_are

  pub contained : (item : Item) → Contains (items_now past) item → IsItem past item
  contained item there = All-contains (IsItem past) (items_now past) item (All-from_recursion (IsItem past) (items_now past) items_are) there
