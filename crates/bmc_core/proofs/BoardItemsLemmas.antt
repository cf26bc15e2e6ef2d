-- The items of boards: each is the one that its id names, so two with one id are one.
use Rattle.std.proofs.Common.{◌≡◌, ◌∙◌, ℕ, zero, suc, ◌+◌, ◌<◌, ◌≤◌, List, [], ◌∷◌, length, map, Option, Some, None, option_map, slice_get}
use Rattle.std.proofs.Common.{refl, sym, ap, subst, subst₂, arith}
use Rattle.std.specs.Prelude.{filter_map, option_and_then, All}
use Rattle.std.specs.List.{AllByRecursion, enumerate_from, cons_option, range_with_len}
use Rattle.std.proofs.lemmas.List.Elements.{All-from_recursion}
use Rattle.std.proofs.lemmas.Option.{slice_get_within}
use Rattle.bmc_base.specs.Places.{Place}
use Rattle.fru_area.specs.declared.field.Field.{Field}
use Rattle.cfg_json.specs.Configs.{Config}
use Rattle.cfg_json.specs.declared.expose.Expose.{Expose}
use Rattle.cfg_json.specs.declared.item.Item.{Item}
use Rattle.cfg_json.specs.declared.item.ItemId.{ItemId}
use Rattle.cfg_json.specs.declared.item.ItemPart.{ItemPart}
use Rattle.tmpl.specs.Rendering.{rendered}
use Rattle.inventory.specs.Differences.{key_of}
use Rattle.inventory.specs.Items.{exposes_of, board_fields, part_of, rendered_item, board_items, items}
use Rattle.inventory.specs.Lists.{keys_of, board_of, board_list}
use Rattle.inventory.specs.Orders.{exposer}
use Rattle.inventory.specs.declared.board.Board.{Board}
use Rattle.inventory.specs.declared.board.BoardKey.{BoardKey}
use Rattle.inventory.proofs.AscendLemmas.{all_flat_map}
use Rattle.inventory.proofs.ListLemmas.{all_any, all_map, all_weaker}

-- ---- lists

-- what holds of each element with its position, if it holds of what is there at a position
all_enumerated : {X : Type 0} (Fact : ℕ × X → Type 0) (start : ℕ) (xs : List X)
    → ((i position : ℕ) (x : X) → start + i ≡ position → slice_get xs i ≡ Some x → Fact (position, x)) → AllByRecursion Fact (enumerate_from start xs)
all_enumerated Fact start [] fact = tt
all_enumerated Fact start (first ∷ xs) fact = (
  fact 0 start first (omega arith) refl,
  all_enumerated Fact (start + 1) xs (λ i position x is at. fact (suc i) position x (omega (arith, is)) at),
)

all_filter_map : {X Y : Type 0} (Fact : Y → Type 0) (Cause : X → Type 0) (image : X → Option Y)
    → ((x : X) → Cause x → (y : Y) → image x ≡ Some y → Fact y) → (xs : List X) → AllByRecursion Cause xs → AllByRecursion Fact (filter_map image xs)
all_filter_map Fact Cause image gives [] causes = tt
all_filter_map {X} {Y} Fact Cause image gives (first ∷ xs) causes =
    by (image first) (gives first causes.0) (all_filter_map Fact Cause image gives xs causes.1)
  where
    by : (made : Option Y) → ((y : Y) → made ≡ Some y → Fact y) → AllByRecursion Fact (filter_map image xs)
        → AllByRecursion Fact (cons_option made (filter_map image xs))
    by None gives rest = rest
    by (Some y) gives rest = (gives y refl, rest)

-- ---- the items of one board

module _ (configs : List Config) (fields_at : Place → Option (List Field)) where
  -- the item that an id names where these boards are kept, if there is one
  abbrev pub item_at : (ℕ → List (Option Place)) → ItemId → Option Item
  item_at kept id =
      option_and_then (λ expose. rendered_item (board_of kept (exposer id)) (option_and_then fields_at id.place) (id.expose, expose))
      (slice_get (exposes_of configs id.config) id.expose)

  -- an item is of a board and of one of its exposes, and the one that its id names, where the board has its index
  pub record IsOf (board : Board) (item : Item) : Type 0 where
    pub key : exposer item.id ≡ board.key
    pub within : item.id.expose < length (exposes_of configs board.key.config)
    pub made : (kept : ℕ → List (Option Place)) → board ≡ board_of kept board.key → item_at kept item.id ≡ Some item

  module _ (board : Board) where
    abbrev exposes : List Expose
    exposes = exposes_of configs board.key.config

    abbrev fields : Option (List Field)
    fields = board_fields fields_at board

    abbrev id_at : ℕ → ItemId
    id_at position = record { config = board.key.config; place = board.key.place; expose = position }

    -- what is rendered of an expose has the id of its position there
    id_is : (name : Option (List ℕ)) (part : Option ItemPart) (position : ℕ) (item : Item)
        → option_and_then (λ name. option_map (λ part. record { id = id_at position; name = name; part = part }) part) name ≡ Some item
        → item.id ≡ id_at position
    id_is None part position item made = absurd (cc)
    id_is (Some name) None position item made = absurd (cc)
    id_is (Some name) (Some part) position item made = cc

    of_expose : (each : ℕ × Expose) → slice_get exposes each.0 ≡ Some each.1 → (item : Item) → rendered_item board fields each ≡ Some item → IsOf board item
    of_expose (position, expose) at item made =
        let id : item.id ≡ id_at position = id_is (rendered board.key.place fields board.index expose.name)
        (part_of board.key.place fields board.index expose.body) position item made in
        record {
          key = ap exposer id;
          within = subst (λ (id : ItemId). id.expose < length exposes) (sym id) (slice_get_within exposes position expose at);
          made = λ kept is.
              subst (λ (id : ItemId). item_at kept id ≡ Some item) (sym id)
              (ap (option_and_then (λ (expose : Expose). rendered_item (board_of kept board.key) fields (position, expose))) at
              ∙ ap (λ (it : Board). rendered_item it fields (position, expose)) (sym is) ∙ made);
        }

    pub of_board : AllByRecursion (IsOf board) (board_items configs fields_at board)
    of_board =
        all_filter_map (IsOf board) (λ (each : ℕ × Expose). slice_get exposes each.0 ≡ Some each.1) (rendered_item board fields) of_expose
        (enumerate_from 0 exposes)
        (all_enumerated _ 0 exposes (λ i position expose is at. let same : i ≡ position = omega (arith, is) in ap (slice_get exposes) (sym same) ∙ at))

    pub within_exposes : (those : List Expose) (items : List Item) → those ≡ exposes → items ≡ board_items configs fields_at board
        → All (λ (item : Item). item.id.expose < length those) items
    within_exposes those items are items_are =
        subst₂ (λ (those : List Expose) (items : List Item). All (λ (item : Item). item.id.expose < length those) items) (sym are) (sym items_are)
        (All-from_recursion _ _ (all_weaker _ _ (λ (item : Item) of. of.within) (board_items configs fields_at board) of_board))

-- ---- the boards of one moment

module _ (kept boards : ℕ → List (Option Place)) (count : ℕ) where
  -- a board of one of so many configurations, with its index
  pub record IsBoard (board : Board) : Type 0 where
    pub within : board.key.config < count
    pub listed : board ≡ board_of kept board.key

  pub boards_are : AllByRecursion IsBoard (board_list kept (keys_of count boards))
  boards_are =
      all_map IsBoard (board_of kept) (keys_of count boards)
      (all_flat_map (λ (key : BoardKey). IsBoard (board_of kept key)) (λ (number : ℕ). number < count) (λ number. map (key_of number) (boards number))
      (λ number few. all_map _ (key_of number) (boards number) (all_any _ (λ place. record { within = few; listed = refl }) (boards number)))
      (range_with_len 0 count) (numbers_few 0 count (omega arith)))
    where
      numbers_few : (from n : ℕ) → from + n ≤ count → AllByRecursion (λ (number : ℕ). number < count) (range_with_len from n)
      numbers_few from zero few = tt
      numbers_few from (suc n) few = (omega (arith, few), numbers_few (from + 1) n (omega (arith, few)))

  pub boards_within : All (λ (board : Board). board.key.config < count) (board_list kept (keys_of count boards))
  boards_within = All-from_recursion _ _ (all_weaker _ _ (λ (board : Board) is. is.within) (board_list kept (keys_of count boards)) boards_are)

  -- each item of them is the one that its id names
  pub items_made : (configs : List Config) (fields_at : Place → Option (List Field))
      → AllByRecursion (λ (item : Item). item_at configs fields_at kept item.id ≡ Some item) (items configs fields_at (board_list kept (keys_of count boards)))
  unfolding items
  items_made configs fields_at =
      all_flat_map _ IsBoard (board_items configs fields_at)
      (λ board is. all_weaker _ _ (λ (item : Item) of. of.made kept is.listed) (board_items configs fields_at board) (of_board configs fields_at board))
      (board_list kept (keys_of count boards)) boards_are
