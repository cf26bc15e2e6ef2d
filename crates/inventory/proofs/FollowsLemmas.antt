-- The boards behind a step, and their items.
use Rattle.std.proofs.Common.{◌≡◌, ◌∙◌, ◌<◌, Bool, true, false, not, cond, ◌||◌, List, [], ◌∷◌, ◌++◌, length, map, filter}
use Rattle.std.proofs.Common.{refl, sym, ap, ap₂, subst, arith, true≢false}
use Rattle.std.specs.Ordering.{is_eq, is_lt, ordering_reverse}
use Rattle.std.specs.declared.cmp.Ordering.{Ordering}
use Rattle.std.specs.declared.cmp.Ordering.TheVariants.{Less, Equal, Greater}
use Rattle.std.specs.List.{AllByRecursion, list_any}
use Rattle.std.specs.List.Sorted.{IsStrictlySortedBy}
use Rattle.std.proofs.lemmas.Bool.{eqb-true}
use Rattle.std.proofs.lemmas.List.Elements.{filter-append}
use Rattle.cfg_json.specs.declared.item.Item.{Item}
use Rattle.inventory.specs.Follows.{is_on, key_eq, Follows}
use Rattle.inventory.specs.Orders.{exposer, id_cmp, key_cmp}
use Rattle.inventory.specs.Shown.{boards_after, items_of, with_all, with_shown, without_keys, AreOrdered, AreShown, IsShown}
use Rattle.inventory.specs.declared.board.BoardKey.{BoardKey}
use Rattle.inventory.specs.declared.shown.Shown.{Shown}
use Rattle.inventory.proofs.BoardLemmas.{and_first, and_second, board_same}
use Rattle.inventory.proofs.IdsLemmas.{id_total, key_total}
use Rattle.inventory.proofs.ListLemmas.{all_filter, all_passes, all_weaker, filter_all, filter_none}
use Rattle.inventory.proofs.ShownLemmas.{id_of, key_cmp_eq, key_of_board, ordered_without, shown_by_id, with_shown_is}
use Rattle.inventory.proofs.SortedLemmas.{one_list, with_sorted}

-- ---- keys

pub key_same : (key other : BoardKey) → key_eq key other ≡ true → key ≡ other
key_same key other same =
    let config : key.config ≡ other.config = eqb-true _ _ (and_first _ _ same) in
    let place : key.place ≡ other.place = board_same _ _ (and_second _ _ same) in
    λ i. record { config = config i; place = place i }

-- ---- parts

part_items : (part : BoardKey → Bool) (boards : List Shown) → AllByRecursion IsShown boards
    → filter (λ (item : Item). part (exposer item.id)) (items_of boards) ≡ items_of (filter (λ (board : Shown). part board.key) boards)
part_items part [] shown = refl
part_items part (board ∷ boards) shown =
    filter-append (λ (item : Item). part (exposer item.id)) board.items.items (items_of boards) ∙ by (part board.key) refl (part_items part boards shown.1)
  where
    own : (is : Bool) → part board.key ≡ is → AllByRecursion (λ (item : Item). part (exposer item.id) ≡ is) board.items.items
    own is eq = all_weaker _ _ (λ (item : Item) mine. ap part mine ∙ eq) board.items.items shown.0.own

    by : (is : Bool) → part board.key ≡ is
        → filter (λ (item : Item). part (exposer item.id)) (items_of boards) ≡ items_of (filter (λ (board : Shown). part board.key) boards)
        → filter (λ (item : Item). part (exposer item.id)) board.items.items ++ filter (λ (item : Item). part (exposer item.id)) (items_of boards)
        ≡ items_of (cond is (board ∷ filter (λ (board : Shown). part board.key) boards) (filter (λ (board : Shown). part board.key) boards))
    by true is later =
        ap₂ (λ (front back : List Item). front ++ back) (filter_all (λ (item : Item). part (exposer item.id)) board.items.items (own true is)) later
    by false is later =
        ap₂ (λ (front back : List Item). front ++ back) (filter_none (λ (item : Item). part (exposer item.id)) board.items.items (own false is)) later

all_front : (Fact : Item → Type 0) (front back : List Item) → AllByRecursion Fact (front ++ back) → AllByRecursion Fact front
all_front Fact [] back facts = tt
all_front Fact (item ∷ front) back facts = (facts.0, all_front Fact front back facts.1)

all_back : (Fact : Item → Type 0) (front back : List Item) → AllByRecursion Fact (front ++ back) → AllByRecursion Fact back
all_back Fact [] back facts = facts
all_back Fact (item ∷ front) back facts = all_back Fact front back facts.1

-- what holds of the keys of all items holds of the boards
by_items : (Fact : BoardKey → Type 0) (boards : List Shown) → AllByRecursion IsShown boards
    → AllByRecursion (λ (item : Item). Fact (exposer item.id)) (items_of boards) → AllByRecursion (λ (board : Shown). Fact board.key) boards
by_items Fact [] shown facts = tt
by_items Fact (board ∷ boards) shown facts = (
  one board.items.items shown.0.some shown.0.own (all_front _ board.items.items (items_of boards) facts),
  by_items Fact boards shown.1 (all_back _ board.items.items (items_of boards) facts),
)
  where
    one : (items : List Item) → 0 < length items → AllByRecursion (λ (item : Item). exposer item.id ≡ board.key) items
        → AllByRecursion (λ (item : Item). Fact (exposer item.id)) items → Fact board.key
    one [] some own facts = absurd (omega (arith, some))
    one (item ∷ items) some own facts = subst Fact own.0 facts.0

-- where none passes, each fails
pub all_fail : {X : Type 0} (test : X → Bool) (xs : List X) → filter test xs ≡ [] → AllByRecursion (λ (x : X). test x ≡ false) xs
all_fail test [] none = tt
all_fail {X} test (first ∷ xs) none = by (test first) refl none (all_fail test xs)
  where
    by : (is : Bool) → test first ≡ is → cond is (first ∷ filter test xs) (filter test xs) ≡ []
        → (filter test xs ≡ [] → AllByRecursion (λ (x : X). test x ≡ false) xs) → AllByRecursion (λ (x : X). test x ≡ false) (first ∷ xs)
    by true is none later = absurd (cc)
    by false is none later = (is, later none)

unfilter : {X : Type 0} (Fact : X → Type 0) (test : X → Bool) (xs : List X) → AllByRecursion Fact (filter test xs)
    → AllByRecursion (λ (x : X). test x ≡ true → Fact x) xs
unfilter Fact test [] facts = tt
unfilter {X} Fact test (first ∷ xs) facts = by (test first) refl facts (unfilter Fact test xs)
  where
    by : (is : Bool) → test first ≡ is → AllByRecursion Fact (cond is (first ∷ filter test xs) (filter test xs))
        → (AllByRecursion Fact (filter test xs) → AllByRecursion (λ (x : X). test x ≡ true → Fact x) xs)
        → AllByRecursion (λ (x : X). test x ≡ true → Fact x) (first ∷ xs)
    by true is facts later = ((λ _. facts.0), later facts.1)
    by false is facts later = ((λ passes. absurd (true≢false (sym passes ∙ is))), later facts)

-- ---- boards that are put in

all_with : (Fact : Shown → Type 0) (board : Shown) (boards : List Shown) → Fact board → AllByRecursion Fact boards
    → AllByRecursion Fact (with_shown board boards)
all_with Fact board [] fact facts = (fact, tt)
all_with Fact board (first ∷ boards) fact facts = by (is_lt (key_cmp first.key board.key)) (all_with Fact board boards fact facts.1)
  where
    by : (before : Bool) → AllByRecursion Fact (with_shown board boards)
        → AllByRecursion Fact (cond before (first ∷ with_shown board boards) (board ∷ first ∷ boards))
    by true later = (facts.0, later)
    by false later = (fact, facts)

skip_with : (part : BoardKey → Bool) (board : Shown) (boards : List Shown) → part board.key ≡ false
    → filter (λ (board : Shown). part board.key) (with_shown board boards) ≡ filter (λ (board : Shown). part board.key) boards
skip_with part board [] is = ap (λ (b : Bool). cond b (board ∷ []) []) is
skip_with part board (first ∷ boards) is = by (is_lt (key_cmp first.key board.key)) (skip_with part board boards is)
  where
    kept : List Shown → List Shown
    kept boards = filter (λ (board : Shown). part board.key) boards

    by : (before : Bool) → filter (λ (board : Shown). part board.key) (with_shown board boards) ≡ filter (λ (board : Shown). part board.key) boards
        → filter (λ (board : Shown). part board.key) (cond before (first ∷ with_shown board boards) (board ∷ first ∷ boards))
        ≡ filter (λ (board : Shown). part board.key) (first ∷ boards)
    by true later = ap (λ (later : List Shown). cond (part first.key) (first ∷ later) later) later
    by false later =
        ap (λ (b : Bool). cond b (board ∷ filter (λ (board : Shown). part board.key) (first ∷ boards))
        (filter (λ (board : Shown). part board.key) (first ∷ boards))) is

not_both : (key other : BoardKey) → is_lt (key_cmp key other) ≡ true → key_cmp other key ≡ Less → ⊥
not_both key other before after = by (key_cmp key other) before (key_total.antisymm key other ∙ ap ordering_reverse after)
  where
    by : (order : Ordering) → is_lt order ≡ true → order ≡ Greater → ⊥
    by Less before after = absurd (cc)
    by Equal before after = absurd (cc)
    by Greater before after = absurd (cc)

take_with : (part : BoardKey → Bool) (board : Shown) (boards : List Shown) → part board.key ≡ true
    → AllByRecursion (λ (other : Shown). part other.key ≡ true → key_cmp board.key other.key ≡ Less) boards
    → filter (λ (board : Shown). part board.key) (with_shown board boards) ≡ board ∷ filter (λ (board : Shown). part board.key) boards
take_with part board [] is later = ap (λ (b : Bool). cond b (board ∷ []) []) is
take_with part board (first ∷ boards) is later =
    by (is_lt (key_cmp first.key board.key)) refl (part first.key) refl (take_with part board boards is later.1)
  where
    by : (before : Bool) → is_lt (key_cmp first.key board.key) ≡ before → (passes : Bool) → part first.key ≡ passes
        → filter (λ (board : Shown). part board.key) (with_shown board boards) ≡ board ∷ filter (λ (board : Shown). part board.key) boards
        → filter (λ (board : Shown). part board.key) (cond before (first ∷ with_shown board boards) (board ∷ first ∷ boards))
        ≡ board ∷ filter (λ (board : Shown). part board.key) (first ∷ boards)
    by true before true passes rest = absurd (not_both first.key board.key before (later.0 passes))
    by true before false fails rest =
        ap (λ (b : Bool). cond b (first ∷ filter (λ (board : Shown). part board.key) (with_shown board boards))
        (filter (λ (board : Shown). part board.key) (with_shown board boards))) fails
        ∙ rest ∙ ap (λ (b : Bool). board ∷ cond b (first ∷ filter (λ (board : Shown). part board.key) boards)
        (filter (λ (board : Shown). part board.key) boards)) (sym fails)
    by false late passes passes_is rest =
        ap (λ (b : Bool). cond b (board ∷ filter (λ (board : Shown). part board.key) (first ∷ boards))
        (filter (λ (board : Shown). part board.key) (first ∷ boards))) is

-- ---- all boards that come

module _ (part : BoardKey → Bool) where
  abbrev passing : List Shown → List Shown
  passing boards = filter (λ (board : Shown). part board.key) boards

  ahead : (board : Shown) (more boards : List Shown) → AreOrdered (board ∷ more) → passing (with_all more boards) ≡ more
      → AllByRecursion (λ (other : Shown). part other.key ≡ true → key_cmp board.key other.key ≡ Less) (with_all more boards)
  unfolding IsStrictlySortedBy
  ahead board more boards order is =
      unfilter (λ (other : Shown). key_cmp board.key other.key ≡ Less) (λ (board : Shown). part board.key) (with_all more boards)
      (subst (AllByRecursion (λ (other : Shown). key_cmp board.key other.key ≡ Less)) (sym is) (unmapped more order.0))
    where
      unmapped : (more : List Shown) → AllByRecursion (λ (key : BoardKey). key_cmp board.key key ≡ Less) (map key_of_board more)
          → AllByRecursion (λ (other : Shown). key_cmp board.key other.key ≡ Less) more
      unmapped [] facts = tt
      unmapped (other ∷ more) facts = (facts.0, unmapped more facts.1)

  rest_order : (board : Shown) (more : List Shown) → AreOrdered (board ∷ more) → AreOrdered more
  unfolding IsStrictlySortedBy
  rest_order board more order = order.1

  come_part : (more boards : List Shown) → AreOrdered more → AllByRecursion (λ (board : Shown). part board.key ≡ true) more → passing boards ≡ []
      → passing (with_all more boards) ≡ more
  come_part [] boards order passes none = none
  come_part (board ∷ more) boards order passes none =
      let rest = come_part more boards (rest_order board more order) passes.1 none in
      take_with part board (with_all more boards) passes.0 (ahead board more boards order rest) ∙ ap (λ (more : List Shown). board ∷ more) rest

  none_equal : (key : BoardKey) → part key ≡ true → (boards : List Shown)
      → AllByRecursion (λ (other : Shown). part other.key ≡ true → key_cmp key other.key ≡ Less) boards
      → list_any (λ (other : Shown). is_eq (key_cmp key other.key)) boards ≡ false
  none_equal key passes [] later = refl
  none_equal key passes (other ∷ boards) later =
      ap₂ (λ (one two : Bool). one || two) (by (part other.key) refl) (none_equal key passes boards later.1)
    where
      by : (is : Bool) → part other.key ≡ is → is_eq (key_cmp key other.key) ≡ false
      by true is = ap is_eq (later.0 is)
      by false is = not_same (is_eq (key_cmp key other.key)) refl
        where
          not_same : (same : Bool) → is_eq (key_cmp key other.key) ≡ same → same ≡ false
          not_same true same =
              absurd (true≢false (sym passes ∙ ap part (key_same key other.key (sym (key_cmp_eq key other.key) ∙ same)) ∙ is))
          not_same false same = refl

  come_shown : (more boards : List Shown) → AreShown more → AreShown boards → AllByRecursion (λ (board : Shown). part board.key ≡ true) more
      → passing boards ≡ []
      → AreShown (with_all more boards)
  come_shown [] boards more_shown shown passes none = shown
  come_shown (board ∷ more) boards more_shown shown passes none =
      let rest_ordered = rest_order board more more_shown.order in
      let rest = come_shown more boards (record { order = rest_ordered; each = more_shown.each.1 }) shown passes.1 none in
      let left = come_part more boards rest_ordered passes.1 none in
      record {
        order = subst AreOrdered (with_shown_is board (with_all more boards))
            (with_sorted key_of_board key_cmp key_total board (with_all more boards) rest.order
            (none_equal board.key passes.0 (with_all more boards) (ahead board more boards more_shown.order left)));
        each = all_with IsShown board (with_all more boards) more_shown.each.0 rest.each;
      }

come_off : (part : BoardKey → Bool) (more boards : List Shown) → AllByRecursion (λ (board : Shown). part board.key ≡ false) more
    → filter (λ (board : Shown). part board.key) (with_all more boards) ≡ filter (λ (board : Shown). part board.key) boards
come_off part [] boards fails = refl
come_off part (board ∷ more) boards fails = skip_with part board (with_all more boards) fails.0 ∙ come_off part more boards fails.1

-- ---- the boards behind a step

module _ (gone keys : List BoardKey) (boards new : List Shown) (next : List Item) (shown : AreShown boards) (new_shown : AreShown new)
    (follows : Follows gone keys (items_of boards) (items_of new) next) where
  abbrev part : BoardKey → Bool
  part key = list_any (key_eq key) keys

  new_on : AllByRecursion (λ (board : Shown). part board.key ≡ true) new
  new_on = by_items (λ key. part key ≡ true) new new_shown.each
      (subst (AllByRecursion (λ (item : Item). is_on keys item ≡ true)) follows.come (all_passes (is_on keys) next))

  old_off : AllByRecursion (λ (board : Shown). part board.key ≡ false) boards
  old_off = by_items (λ key. part key ≡ false) boards shown.each (all_fail (is_on keys) (items_of boards) follows.fresh)

  stay_off : AllByRecursion (λ (board : Shown). part board.key ≡ false) (without_keys gone boards)
  stay_off = all_filter _ (λ (board : Shown). not (list_any (key_eq board.key) gone)) boards old_off

  stay_shown : AreShown (without_keys gone boards)
  stay_shown = record {
    order = ordered_without gone boards shown.order;
    each = all_filter IsShown (λ (board : Shown). not (list_any (key_eq board.key) gone)) boards shown.each;
  }

  none_stay : filter (λ (board : Shown). part board.key) (without_keys gone boards) ≡ []
  none_stay = filter_none (λ (board : Shown). part board.key) (without_keys gone boards) stay_off

  pub behind_shown : AreShown (boards_after gone new boards)
  behind_shown = come_shown part new (without_keys gone boards) new_shown stay_shown new_on none_stay

  turn_false : AllByRecursion (λ (board : Shown). not (part board.key) ≡ false) new
  turn_false = all_weaker _ _ (λ (board : Shown) is. ap not is) new new_on

  turn_true : AllByRecursion (λ (board : Shown). not (part board.key) ≡ true) (without_keys gone boards)
  turn_true = all_weaker _ _ (λ (board : Shown) is. ap not is) (without_keys gone boards) stay_off

  pub behind_is : items_of (boards_after gone new boards) ≡ next
  behind_is =
      one_list id_of id_cmp id_total (is_on keys) (items_of (boards_after gone new boards)) next (shown_by_id (boards_after gone new boards) behind_shown)
      follows.order
      (part_items part (boards_after gone new boards) behind_shown.each
      ∙ ap items_of (come_part part new (without_keys gone boards) new_shown.order new_on none_stay) ∙ sym follows.come)
      (part_items (λ key. not (part key)) (boards_after gone new boards) behind_shown.each
      ∙ ap items_of (come_off (λ key. not (part key)) new (without_keys gone boards) turn_false
      ∙ filter_all (λ (board : Shown). not (part board.key)) (without_keys gone boards) turn_true)
      ∙ sym (part_items (λ key. not (list_any (key_eq key) gone)) boards shown.each) ∙ follows.stay)
