-- The order of boards and of items, and lists that ascend by it.
use Rattle.std.proofs.Common.{◌≡◌, ◌∙◌, ℕ, ◌+◌, ◌≤◌, Bool, true, ◌&&◌, List, [], ◌∷◌, map, Option, Some, None, option_map, refl, sym, ap, subst, arith}
use mathlib.Core.List.{map-map, map-id}
use Rattle.std.specs.Prelude.{◌==◌, filter_map, option_and_then}
use Rattle.std.specs.Option.{option_cmp}
use Rattle.std.specs.Ordering.{is_eq, nat_cmp, ordering_then}
use Rattle.std.specs.declared.cmp.Ordering.{Ordering}
use Rattle.std.specs.declared.cmp.Ordering.TheVariants.{Less, Equal, Greater}
use Rattle.std.specs.Cmp.{IsTotalOrder}
use Rattle.std.specs.Cmp.Lexicographic.{options_total}
use Rattle.std.specs.List.{AllByRecursion, IsDistinct, enumerate_from, cons_option, range_with_len}
use Rattle.std.specs.List.Sorted.{IsStrictlySortedBy}
use Rattle.std.proofs.lemmas.Bool.{eq-eqb, eqb-true}
use Rattle.std.proofs.lemmas.Cmp.{nat_cmp_total, on_total, then_total, tied_itself}
use Rattle.std.proofs.lemmas.Map.Keys.{IsDistinct-from_sorted}
use Rattle.bmc_base.specs.Places.{Place, place_cmp}
use Rattle.fru_area.specs.declared.field.Field.{Field}
use Rattle.tmpl.specs.Rendering.{rendered}
use Rattle.cfg_json.specs.declared.expose.Expose.{Expose}
use Rattle.cfg_json.specs.declared.item.Item.{Item}
use Rattle.cfg_json.specs.declared.item.ItemId.{ItemId}
use Rattle.cfg_json.specs.declared.item.ItemPart.{ItemPart}
use Rattle.match_rows.proofs.PlacesLemmas.{place_total}
use Rattle.inventory.specs.declared.board.Board.{Board}
use Rattle.inventory.specs.declared.board.BoardKey.{BoardKey}
use Rattle.inventory.specs.Differences.{key_of}
use Rattle.inventory.specs.Lists.{keys_of, board_of}
use Rattle.inventory.specs.Items.{exposes_of, board_fields, part_of, rendered_item, board_items, items, id_eq, is_live, live}
use Rattle.inventory.specs.Orders.{key_cmp, exposer, id_cmp, AreById, HaveOwnIds}
use Rattle.inventory.specs.Laws.{BoardListAscends, ItemsAscend, ItemsDiffer, LiveAscend}
use Rattle.inventory.proofs.BoardLemmas.{and_first, and_second, board_same}
use Rattle.inventory.proofs.BoardsLemmas.{board_cmp_eq}
use Rattle.inventory.proofs.ListLemmas.{all_any, all_map, all_weaker, ascending_filter, ascending_map}
use Rattle.inventory.proofs.AscendLemmas.{ascending_flat_map, number_before, numbers_ascend}

-- ---- the order

pub key_total : IsTotalOrder key_cmp
key_total = then_total (on_total (λ (key : BoardKey). key.config) nat_cmp_total) (on_total (λ (key : BoardKey). key.place) (options_total place_total))

pub id_total : IsTotalOrder id_cmp
id_total = then_total (on_total exposer key_total) (on_total (λ (id : ItemId). id.expose) nat_cmp_total)

pub then_eq : (order next : Ordering) (one other : Bool) → is_eq order ≡ one → is_eq next ≡ other → is_eq (ordering_then order next) ≡ (one && other)
then_eq Less next one other is is_next = ap (λ (each : Bool). each && other) is
then_eq Equal next one other is is_next = is_next ∙ ap (λ (each : Bool). each && other) is
then_eq Greater next one other is is_next = ap (λ (each : Bool). each && other) is

pub number_cmp_eq : (one other : ℕ) → is_eq (nat_cmp one other) ≡ (one == other)
number_cmp_eq one other = grind (arith, eq-eqb, eqb-true)

-- the order of ids finds them equal where they are the same
pub id_cmp_eq : (id other : ItemId) → is_eq (id_cmp id other) ≡ id_eq id other
id_cmp_eq id other =
    then_eq (key_cmp (exposer id) (exposer other)) (nat_cmp id.expose other.expose) _ _
    (then_eq (nat_cmp id.config other.config) (option_cmp place_cmp id.place other.place) _ _ (number_cmp_eq id.config other.config)
    (board_cmp_eq id.place other.place))
    (number_cmp_eq id.expose other.expose)

pub id_itself : (id : ItemId) → id_eq id id ≡ true
id_itself id = sym (id_cmp_eq id id) ∙ ap is_eq (tied_itself id_total id)

-- ids that test alike are one
pub id_same : (id other : ItemId) → id_eq id other ≡ true → id ≡ other
id_same id other same =
    let config : id.config ≡ other.config = eqb-true _ _ (and_first _ _ (and_first _ _ same)) in
    let place : id.place ≡ other.place = board_same _ _ (and_second _ _ (and_first _ _ same)) in
    let expose : id.expose ≡ other.expose = eqb-true _ _ (and_second _ _ same) in
    λ i. record { config = config i; place = place i; expose = expose i }

-- ---- boards

then_less : (order later : Ordering) → order ≡ Less → ordering_then order later ≡ Less
then_less Less later less = refl
then_less Equal later less = absurd (cc)
then_less Greater later less = absurd (cc)

key_places_ascend : (number : ℕ) (places : List (Option Place)) → IsStrictlySortedBy (option_cmp place_cmp) places
    → IsStrictlySortedBy key_cmp (map (λ (key : BoardKey). key) (map (key_of number) places))
key_places_ascend number places ascend =
    subst (IsStrictlySortedBy key_cmp) (sym (map-id (map (key_of number) places)))
    (ascending_map (option_cmp place_cmp) key_cmp (key_of number)
    (λ one other less. ap (λ (order : Ordering). ordering_then order (option_cmp place_cmp one other)) (tied_itself nat_cmp_total number) ∙ less) places ascend)

pub keys_ascend : (boards : ℕ → List (Option Place)) (count : ℕ) → ((number : ℕ) → IsStrictlySortedBy (option_cmp place_cmp) (boards number))
    → IsStrictlySortedBy key_cmp (keys_of count boards)
keys_ascend boards count each =
    subst (IsStrictlySortedBy key_cmp) (map-id (keys_of count boards))
    (ascending_flat_map (λ (number : ℕ). number) nat_cmp (λ (key : BoardKey). key) key_cmp (λ key. key.config)
    (λ one other less. then_less (nat_cmp one.config other.config) _ less) (λ number. map (key_of number) (boards number))
    (λ number. all_map _ (key_of number) (boards number) (all_any _ (λ place. refl) (boards number)))
    (λ number. key_places_ascend number (boards number) (each number)) (range_with_len 0 count)
    (subst (IsStrictlySortedBy nat_cmp) (sym (map-id (range_with_len 0 count))) (numbers_ascend 0 count)))

pub board_list_ascends : BoardListAscends
board_list_ascends kept boards count each =
    subst (IsStrictlySortedBy key_cmp)
    (sym (map-map (λ (board : Board). board.key) (board_of kept) (keys_of count boards) ∙ map-id (keys_of count boards))) (keys_ascend boards count each)

-- ---- items

module _ (fields_at : Place → Option (List Field)) (board : Board) where
  fields : Option (List Field)
  fields = board_fields fields_at board

  abbrev made : ℕ → List ℕ → ItemPart → Item
  made position name part = record {
    id = record { config = board.key.config; place = board.key.place; expose = position };
    name = name;
    part = part;
  }

  abbrev made_if : ℕ → Option ItemPart → Option (List ℕ) → Option Item
  made_if position part name = option_and_then (λ name. option_map (made position name) part) name

  -- the items of a board from one of its exposes on
  abbrev from : ℕ → List Expose → List Item
  from position exposes = filter_map (rendered_item board (board_fields fields_at board)) (enumerate_from position exposes)

  -- they are of the board, and of these exposes
  pub items_from : (position : ℕ) (exposes : List Expose)
      → AllByRecursion (λ (item : Item). (exposer item.id ≡ board.key) × (position ≤ item.id.expose)) (from position exposes)
  items_from position [] = tt
  items_from position (expose ∷ exposes) =
      by (rendered board.key.place (board_fields fields_at board) board.index expose.name)
      (part_of board.key.place (board_fields fields_at board) board.index expose.body)
      (all_weaker _ _ (λ (item : Item) is. (is.0, omega (arith, is.1))) (from (position + 1) exposes) (items_from (position + 1) exposes))
    where
      by : (name : Option (List ℕ)) (part : Option ItemPart)
          → AllByRecursion (λ (item : Item). (exposer item.id ≡ board.key) × (position ≤ item.id.expose)) (from (position + 1) exposes)
          → AllByRecursion (λ (item : Item). (exposer item.id ≡ board.key) × (position ≤ item.id.expose))
          (cons_option (made_if position part name) (from (position + 1) exposes))
      by None part rest = rest
      by (Some name) None rest = rest
      by (Some name) (Some part) rest = ((refl, omega arith), rest)

  pub items_ascend_from : (position : ℕ) (exposes : List Expose) → AreById (from position exposes)
  unfolding IsStrictlySortedBy
  items_ascend_from position [] = tt
  items_ascend_from position (expose ∷ exposes) =
      by (rendered board.key.place (board_fields fields_at board) board.index expose.name)
      (part_of board.key.place (board_fields fields_at board) board.index expose.body) (items_ascend_from (position + 1) exposes)
    where
      below : (name : List ℕ) (part : ItemPart) (item : Item) → (exposer item.id ≡ board.key) × (position + 1 ≤ item.id.expose)
          → id_cmp ((made position name part).id) item.id ≡ Less
      below name part item is =
          ap (λ key. ordering_then (key_cmp board.key key) (nat_cmp position item.id.expose)) is.0
          ∙ ap (λ (order : Ordering). ordering_then order (nat_cmp position item.id.expose)) (tied_itself key_total board.key)
          ∙ number_before position item.id.expose (omega (arith, is.1))

      by : (name : Option (List ℕ)) (part : Option ItemPart) → AreById (from (position + 1) exposes)
          → AreById (cons_option (made_if position part name) (from (position + 1) exposes))
      by None part rest = rest
      by (Some name) None rest = rest
      by (Some name) (Some part) rest = (
        all_map _ (λ (item : Item). item.id) (from (position + 1) exposes)
            (all_weaker _ _ (below name part) (from (position + 1) exposes) (items_from (position + 1) exposes)),
        rest,
      )

pub items_ascend : ItemsAscend
unfolding items
items_ascend configs fields_at boards ascend =
    ascending_flat_map (λ (board : Board). board.key) key_cmp (λ (item : Item). item.id) id_cmp exposer
    (λ one other less. then_less (key_cmp (exposer one) (exposer other)) _ less) (board_items configs fields_at)
    (λ board. all_weaker _ _ (λ (item : Item) is. is.0) _ (items_from fields_at board 0 (exposes_of configs board.key.config)))
    (λ board. items_ascend_from fields_at board 0 (exposes_of configs board.key.config)) boards ascend

-- items that ascend have ids of their own
pub ascending_ids : (items : List Item) → AreById items → HaveOwnIds items
ascending_ids items ascend =
    subst (λ (same : ItemId → ItemId → Bool). IsDistinct same (map (λ (item : Item). item.id) items)) (λ i id other. id_cmp_eq id other i)
    (IsDistinct-from_sorted id_cmp (map (λ (item : Item). item.id) items) ascend)

pub items_differ : ItemsDiffer
items_differ configs fields_at boards ascend = ascending_ids (items configs fields_at boards) (items_ascend configs fields_at boards ascend)

pub live_ascend : LiveAscend
unfolding live
live_ascend items ascend = ascending_filter (λ (item : Item). item.id) id_cmp (is_live items) items ascend
