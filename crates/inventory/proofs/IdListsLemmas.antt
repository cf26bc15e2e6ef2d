-- Lists of ids that ascend, and what is in them.
use Rattle.std.proofs.Common.{◌≡◌, ◌∙◌, ℕ, zero, suc, Bool, true, false, not, cond, ◌||◌, ◌&&◌, List, [], ◌∷◌, ◌++◌, map, filter, Option, Some, None}
use Rattle.std.proofs.Common.{slice_get, refl, sym, ap, ap₂, subst, true≢false}
use mathlib.Core.List.{map-id}
use Rattle.std.specs.Prelude.{find, option_to_list}
use Rattle.std.specs.Option.{is_some}
use Rattle.std.specs.List.{AllByRecursion, insert, remove, list_any, prefix_len}
use Rattle.std.specs.List.Sorted.{IsStrictlySortedBy}
use Rattle.std.specs.Ordering.{is_eq, is_lt}
use Rattle.std.specs.declared.cmp.Ordering.TheVariants.{Less}
use Rattle.cfg_json.specs.declared.item.ItemId.{ItemId}
use Rattle.inventory.specs.Items.{id_eq}
use Rattle.inventory.specs.Orders.{id_cmp}
use Rattle.inventory.specs.Bearers.{but_id, is_id, or_id, Lists}
use Rattle.inventory.proofs.IdsLemmas.{id_total, id_cmp_eq, id_itself, id_same}
use Rattle.inventory.proofs.ListLemmas.{ascending_filter}
use Rattle.inventory.proofs.SortedLemmas.{any_with, found, inserted, is_there, removed, with_one, with_sorted}

-- ---- tests

abbrev pub its_id : ItemId → ItemId
its_id id = id

both_ways : (one other : Bool) → (one ≡ true → other ≡ true) → (other ≡ true → one ≡ true) → one ≡ other
both_ways true true there back = refl
both_ways true false there back = sym (there refl)
both_ways false true there back = back refl
both_ways false false there back = refl

pub id_swap : (id other : ItemId) → id_eq id other ≡ id_eq other id
id_swap id other =
    both_ways _ _ (λ same. ap (λ (each : ItemId). id_eq other each) (id_same id other same) ∙ id_itself other)
    (λ same. ap (λ (each : ItemId). id_eq id each) (id_same other id same) ∙ id_itself id)

sorted : (ids : List ItemId) → IsStrictlySortedBy id_cmp ids → IsStrictlySortedBy id_cmp (map its_id ids)
sorted ids order = subst (IsStrictlySortedBy id_cmp) (sym (map-id ids)) order

unsorted : (ids : List ItemId) → IsStrictlySortedBy id_cmp (map its_id ids) → IsStrictlySortedBy id_cmp ids
unsorted ids order = subst (IsStrictlySortedBy id_cmp) (map-id ids) order

-- what is found passes
pub any_found : {X : Type 0} (test : X → Bool) (xs : List X) → find test xs ≡ None → list_any test xs ≡ false
any_found test [] none = refl
any_found {X} test (first ∷ xs) none = by (test first) none (any_found test xs)
  where
    by : (is : Bool) → cond is (Some first) (find test xs) ≡ None → (find test xs ≡ None → list_any test xs ≡ false) → (is || list_any test xs) ≡ false
    by true none later = absurd (cc)
    by false none later = later none

pub any_at : (id : ItemId) (ids : List ItemId) (n : ℕ) → is_id id (slice_get ids n) ≡ true → list_any (id_eq id) ids ≡ true
any_at id [] zero is = absurd (cc)
any_at id [] (suc n) is = absurd (cc)
any_at id (first ∷ ids) zero is = ap (λ (b : Bool). b || list_any (id_eq id) ids) is
any_at id (first ∷ ids) (suc n) is = by (id_eq id first) (any_at id ids n is)
  where
    by : (here : Bool) → list_any (id_eq id) ids ≡ true → (here || list_any (id_eq id) ids) ≡ true
    by true later = refl
    by false later = later

-- what has an id in a part that the id alone decides
and_false : (one : Bool) → (one && false) ≡ false
and_false true = refl
and_false false = refl

part_step : (first here rest left whole : Bool) → (here ≡ true → whole ≡ first) → left ≡ (rest && whole)
    → cond first (here || left) left ≡ ((here || rest) && whole)
part_step true true rest left whole decides is = sym (decides refl)
part_step true false rest left whole decides is = is
part_step false true rest left whole decides is =
    is ∙ ap (λ (b : Bool). rest && b) (decides refl) ∙ and_false rest ∙ sym (decides refl)
part_step false false rest left whole decides is = is

any_cond : {X : Type 0} (test : X → Bool) (first : X) (xs : List X) (is : Bool)
    → list_any test (cond is (first ∷ xs) xs) ≡ cond is (test first || list_any test xs) (list_any test xs)
any_cond test first xs true = refl
any_cond test first xs false = refl

both_true : (one other : Bool) → (one && other) ≡ true → other ≡ true
both_true true other is = is
both_true false other is = absurd (cc)

pub any_by : {X : Type 0} (its : X → ItemId) (of : X → Bool) (part : ItemId → Bool) (id : ItemId) (xs : List X)
    → list_any (λ (x : X). of x && id_eq id (its x)) (filter (λ (x : X). part (its x)) xs) ≡ (list_any (λ (x : X). of x && id_eq id (its x)) xs && part id)
any_by its of part id [] = refl
any_by {X} its of part id (first ∷ xs) =
    any_cond (λ (x : X). of x && id_eq id (its x)) first (filter (λ (x : X). part (its x)) xs) (part (its first))
    ∙ part_step (part (its first)) (of first && id_eq id (its first)) (list_any (λ (x : X). of x && id_eq id (its x)) xs)
    (list_any (λ (x : X). of x && id_eq id (its x)) (filter (λ (x : X). part (its x)) xs)) (part id)
    (λ here. ap part (id_same id (its first) (both_true (of first) (id_eq id (its first)) here))) (any_by its of part id xs)

-- ---- lists of ids that tests give

-- an id that is there
pub added_there : (ids : List ItemId) (id : ItemId) (n : ℕ) (test : ItemId → Bool) → is_id id (slice_get ids n) ≡ true → Lists ids test
    → Lists ids (or_id test id)
added_there ids id n test there lists = record {
  order = lists.order;
  each = λ each. lists.each each ∙ by each (id_eq each id) refl (test each) refl;
}
  where
    by : (each : ItemId) (same : Bool) → id_eq each id ≡ same → (is : Bool) → test each ≡ is → is ≡ (is || same)
    by each true same true is = refl
    by each true same false is =
        sym (is) ∙ sym (lists.each each) ∙ ap (λ (each : ItemId). list_any (id_eq each) ids) (id_same each id same) ∙ any_at id ids n there
    by each false same true is = refl
    by each false same false is = refl

-- an id that is put in
pub added : (ids : List ItemId) (id : ItemId) (n : ℕ) (test : ItemId → Bool) → n ≡ prefix_len (λ (each : ItemId). is_lt (id_cmp each id)) ids
    → is_id id (slice_get ids n) ≡ false → Lists ids test → Lists (insert ids n id) (or_id test id)
added ids id n test count free lists =
    subst (λ (list : List ItemId). Lists list (or_id test id)) (sym (ap (λ (n : ℕ). insert ids n id) count ∙ inserted its_id id_cmp id_total id ids))
    (record {
      order = unsorted (with_one its_id id_cmp id_total id ids) (with_sorted its_id id_cmp id_total id ids (sorted ids lists.order) none);
      each = λ each. any_with its_id id_cmp id_total (id_eq each) id ids ∙ ap (λ (b : Bool). b || id_eq each id) (lists.each each);
    })
  where
    there_is : (found : Option ItemId) → is_id id found ≡ false
        → cond (is_there its_id id_cmp id_total id found) found None ≡ None
    there_is None free = refl
    there_is (Some other) free = ap (λ (b : Bool). cond b (Some other) None) (id_cmp_eq id other ∙ free)

    none : list_any (λ (each : ItemId). is_eq (id_cmp id each)) ids ≡ false
    none =
        any_found (λ (each : ItemId). is_eq (id_cmp id each)) ids
        (found its_id id_cmp id_total id ids (sorted ids lists.order)
        ∙ there_is (slice_get ids (prefix_len (λ (each : ItemId). is_lt (id_cmp each id)) ids))
        (ap (λ (n : ℕ). is_id id (slice_get ids n)) (sym count) ∙ free))

-- an id that is taken out, if it is there
pub taken : (ids : List ItemId) (id : ItemId) (n : ℕ) (test : ItemId → Bool) → n ≡ prefix_len (λ (each : ItemId). is_lt (id_cmp each id)) ids
    → Lists ids test → Lists (cond (is_id id (slice_get ids n)) (remove ids n) ids) (but_id test id)
taken ids id n test count lists =
    subst (λ (list : List ItemId). Lists list (but_id test id)) (sym (whole ∙ removed its_id id_cmp id_total id ids (sorted ids lists.order) ∙ kept_is))
    (record {
      order = unsorted _ (ascending_filter its_id id_cmp (λ each. not (id_eq each id)) ids (sorted ids lists.order));
      each = λ each. any_by its_id (λ _. true) (λ each. not (id_eq each id)) each ids ∙ ap (λ (b : Bool). b && not (id_eq each id)) (lists.each each);
    })
  where
    there_is : (found : Option ItemId) → is_id id found ≡ is_there its_id id_cmp id_total id found
    there_is None = refl
    there_is (Some other) = sym (id_cmp_eq id other)

    whole : cond (is_id id (slice_get ids n)) (remove ids n) ids
        ≡ cond (is_there its_id id_cmp id_total id (slice_get ids (prefix_len (λ (each : ItemId). is_lt (id_cmp each id)) ids)))
        (remove ids (prefix_len (λ (each : ItemId). is_lt (id_cmp each id)) ids)) ids
    whole =
        ap (λ (b : Bool). cond b (remove ids n) ids) (there_is (slice_get ids n))
        ∙ ap (λ (n : ℕ). cond (is_there its_id id_cmp id_total id (slice_get ids n)) (remove ids n) ids) count

    kept_is : filter (λ (each : ItemId). not (is_eq (id_cmp id each))) ids ≡ filter (λ (each : ItemId). not (id_eq each id)) ids
    kept_is = λ i. filter (λ (each : ItemId). not ((id_cmp_eq id each ∙ id_swap id each) i)) ids

-- ---- one list

itself_first : (id : ItemId) (ids : List ItemId) → list_any (id_eq id) (id ∷ ids) ≡ true
itself_first id ids = ap (λ (b : Bool). b || list_any (id_eq id) ids) (id_itself id)

-- no id comes before itself, so one that comes before all others is not among them
below_all : (id : ItemId) (ids : List ItemId) → AllByRecursion (λ (each : ItemId). id_cmp id each ≡ Less) ids → list_any (id_eq id) ids ≡ false
below_all id [] less = refl
below_all id (first ∷ ids) less = ap₂ (λ (one other : Bool). one || other) (sym (id_cmp_eq id first) ∙ ap is_eq less.0) (below_all id ids less.1)

-- what is among ids that come behind one
among : (Fact : ItemId → Type 0) (id : ItemId) (ids : List ItemId) → AllByRecursion Fact ids → list_any (id_eq id) ids ≡ true → Fact id
among Fact id [] facts has = absurd (cc)
among Fact id (first ∷ ids) facts has = by (id_eq id first) refl has (among Fact id ids facts.1)
  where
    by : (same : Bool) → id_eq id first ≡ same → (same || list_any (id_eq id) ids) ≡ true → (list_any (id_eq id) ids ≡ true → Fact id) → Fact id
    by true same has later = subst Fact (sym (id_same id first same)) facts.0
    by false same has later = later has

first_one : (id other : ItemId) (ids others : List ItemId) → IsStrictlySortedBy id_cmp (id ∷ ids) → IsStrictlySortedBy id_cmp (other ∷ others)
    → list_any (id_eq id) (other ∷ others) ≡ true → list_any (id_eq other) (id ∷ ids) ≡ true → id ≡ other
unfolding IsStrictlySortedBy
first_one id other ids others order other_order has other_has = by (id_eq id other) refl has (id_eq other id) refl other_has
  where
    by : (same : Bool) → id_eq id other ≡ same → (same || list_any (id_eq id) others) ≡ true
        → (back : Bool) → id_eq other id ≡ back → (back || list_any (id_eq other) ids) ≡ true → id ≡ other
    by true same has back back_is other_has = id_same id other same
    by false same has true back_is other_has = sym (id_same other id back_is)
    by false same has false back_is other_has =
        let up : id_cmp other id ≡ Less = among (λ (each : ItemId). id_cmp other each ≡ Less) id others other_order.0 has in
        let down : id_cmp id other ≡ Less = among (λ (each : ItemId). id_cmp id each ≡ Less) other ids order.0 other_has in
        let less : id_cmp id id ≡ Less = id_total.trans id other id down up in
        let one : id_eq id id ≡ false = sym (id_cmp_eq id id) ∙ ap is_eq less in
        absurd (true≢false (sym (id_itself id) ∙ one))

rest_lists : (id : ItemId) (ids : List ItemId) (test : ItemId → Bool) → Lists (id ∷ ids) test → Lists ids (but_id test id)
unfolding IsStrictlySortedBy
rest_lists id ids test lists = record {
  order = lists.order.1;
  each = λ each. by each (id_eq each id) refl (lists.each each);
}
  where
    by : (each : ItemId) (same : Bool) → id_eq each id ≡ same → (same || list_any (id_eq each) ids) ≡ test each
        → list_any (id_eq each) ids ≡ (test each && not same)
    by each true same is =
        ap (λ (each : ItemId). list_any (id_eq each) ids) (id_same each id same) ∙ below_all id ids lists.order.0 ∙ sym (and_false (test each))
    by each false same is = is ∙ and_true (test each)
      where
        and_true : (b : Bool) → b ≡ (b && true)
        and_true true = refl
        and_true false = refl

-- lists of ids that one test gives are one
pub lists_one : (ids others : List ItemId) (test : ItemId → Bool) → Lists ids test → Lists others test → ids ≡ others
lists_one [] [] test lists other = refl
lists_one [] (other ∷ others) test lists other_lists = absurd (true≢false (sym (itself_first other others) ∙ other_lists.each other ∙ sym (lists.each other)))
lists_one (id ∷ ids) [] test lists other_lists = absurd (true≢false (sym (itself_first id ids) ∙ lists.each id ∙ sym (other_lists.each id)))
lists_one (id ∷ ids) (other ∷ others) test lists other_lists =
    let same : id ≡ other =
    first_one id other ids others lists.order other_lists.order (other_lists.each id ∙ sym (lists.each id) ∙ itself_first id ids)
    (lists.each other ∙ sym (other_lists.each other) ∙ itself_first other others) in
    ap₂ (λ (id : ItemId) (ids : List ItemId). id ∷ ids) same
    (lists_one ids others (but_id test id) (rest_lists id ids test lists)
    (subst (λ (each : ItemId). Lists others (but_id test each)) (sym same) (rest_lists other others test other_lists)))

-- what a test says of each id alone counts
pub lists_alike : (ids : List ItemId) (test other : ItemId → Bool) → Lists ids test → ((id : ItemId) → test id ≡ other id) → Lists ids other
lists_alike ids test other lists alike = record { order = lists.order; each = λ id. lists.each id ∙ alike id }

-- what passes the test of a list is all that is in it
all_of : (Fact : ItemId → Type 0) (ids : List ItemId) (test : ItemId → Bool) → Lists ids test → ((id : ItemId) → test id ≡ true → Fact id)
    → AllByRecursion Fact ids
all_of Fact [] test lists fact = tt
all_of Fact (id ∷ ids) test lists fact = (
  fact id (sym (lists.each id) ∙ itself_first id ids),
  all_of Fact ids (but_id test id) (rest_lists id ids test lists) (λ each is. fact each (first_true (test each) (not (id_eq each id)) is)),
)
  where
    first_true : (one other : Bool) → (one && other) ≡ true → one ≡ true
    first_true true other is = refl
    first_true false other is = absurd (cc)

-- ---- an id that may stand alone before others

module _ (ids more : List ItemId) (id : ItemId) (takes : (test : ItemId → Bool) → Lists ids test → Lists more (but_id test id)) where
  first_gone : (first : ItemId) (test : ItemId → Bool) → id_eq id first ≡ true → Lists (first ∷ ids) test → Lists more (but_id test id)
  first_gone first test same lists =
      lists_alike more (but_id (but_id test first) id) (but_id test id) (takes (but_id test first) (rest_lists first ids test lists))
      (λ each. ap (λ (other : ItemId). (test each && not (id_eq each other)) && not (id_eq each id)) (sym (id_same id first same))
      ∙ twice (test each) (not (id_eq each id)))
    where
      twice : (one other : Bool) → ((one && other) && other) ≡ (one && other)
      twice true true = refl
      twice true false = refl
      twice false other = refl

  first_stays : (first : ItemId) (test : ItemId → Bool) → id_eq id first ≡ false → Lists (first ∷ ids) test → Lists (first ∷ more) (but_id test id)
  unfolding IsStrictlySortedBy
  first_stays first test differs lists =
      let kept : Lists more (but_id (but_id test first) id) = takes (but_id test first) (rest_lists first ids test lists) in
      record {
        order = (
          all_of (λ (each : ItemId). id_cmp first each ≡ Less) more (but_id (but_id test first) id) kept (λ each is.
              among (λ (each : ItemId). id_cmp first each ≡ Less) each ids lists.order.0
              ((rest_lists first ids test lists).each each ∙ first_of (but_id test first each) (not (id_eq each id)) is)),
          kept.order,
        );
        each = λ each. ap (λ (b : Bool). id_eq each first || b) (kept.each each) ∙ by each (id_eq each first) refl (lists.each each);
      }
    where
      first_of : (one other : Bool) → (one && other) ≡ true → one ≡ true
      first_of true other is = refl
      first_of false other is = absurd (cc)

      by : (each : ItemId) (same : Bool) → id_eq each first ≡ same → (same || list_any (id_eq each) ids) ≡ test each
          → (same || ((test each && not same) && not (id_eq each id))) ≡ (test each && not (id_eq each id))
      by each true same is =
          let other : id_eq each id ≡ false = ap (λ (each : ItemId). id_eq each id) (id_same each first same) ∙ id_swap first id ∙ differs in
          sym (ap₂ (λ (one two : Bool). one && not two) (sym is) other)
      by each false same is = ap (λ (b : Bool). b && not (id_eq each id)) (plain (test each))
        where
          plain : (b : Bool) → (b && true) ≡ b
          plain true = refl
          plain false = refl

  pub first_taken : (first : Option ItemId) (test : ItemId → Bool) → Lists (option_to_list first ++ ids) test
      → Lists (option_to_list (cond (is_id id first) None first) ++ more) (but_id test id)
  first_taken None test lists = takes test lists
  first_taken (Some first) test lists = by (id_eq id first) refl
    where
      by : (same : Bool) → id_eq id first ≡ same → Lists (option_to_list (cond same None (Some first)) ++ more) (but_id test id)
      by true same = first_gone first test same lists
      by false differs = first_stays first test differs lists

-- an id alone
one_id : (id : ItemId) (test : ItemId → Bool) → Lists [] test → Lists (id ∷ []) (or_id test id)
unfolding IsStrictlySortedBy
one_id id test none = record { order = (tt, tt); each = λ each. turn (id_eq each id) ∙ ap (λ (b : Bool). b || id_eq each id) (none.each each) }
  where
    turn : (b : Bool) → (b || false) ≡ (false || b)
    turn true = refl
    turn false = refl

pub alone : (first : Option ItemId) (rest : List ItemId) (id : ItemId) (test : ItemId → Bool) → first ≡ None → rest ≡ []
    → Lists (option_to_list first ++ rest) test → Lists (id ∷ rest) (or_id test id)
alone first rest id test no_first no_rest lists =
    subst (λ (rest : List ItemId). Lists (id ∷ rest) (or_id test id)) (sym no_rest) (one_id id test
    (subst (λ (ids : List ItemId). Lists ids test)
    (ap₂ (λ (first : Option ItemId) (rest : List ItemId). option_to_list first ++ rest) no_first no_rest) lists))

pub no_id : (first : Option ItemId) → is_some first ≡ false → first ≡ None
no_id None none = refl
no_id (Some first) none = absurd (cc)

-- an id that is put in, where others do not have it
pub unless_some : (ids : List ItemId) (first : ItemId) (id : Option ItemId) (has test : ItemId → Bool) → id ≡ Some first → has first ≡ false
    → Lists ids (or_id test first) → Lists ids (λ each. test each || (is_id each id && not (has each)))
unless_some ids first id has test some differs lists = lists_alike ids (or_id test first) _ lists (λ each.
    ap (λ (b : Bool). test each || b) (by each (id_eq each first) refl)
    ∙ ap (λ (id : Option ItemId). test each || (is_id each id && not (has each))) (sym some))
  where
    by : (each : ItemId) (same : Bool) → id_eq each first ≡ same → id_eq each first ≡ (id_eq each first && not (has each))
    by each true same = same ∙ sym (ap₂ (λ (one two : Bool). one && not two) same (ap has (id_same each first same) ∙ differs))
    by each false same = same ∙ sym (ap (λ (b : Bool). b && not (has each)) same)

pub unless_same : (ids : List ItemId) (first : ItemId) (id : Option ItemId) (has test : ItemId → Bool) → id ≡ Some first → has first ≡ true
    → Lists ids test → Lists ids (λ each. test each || (is_id each id && not (has each)))
unless_same ids first id has test some same lists = lists_alike ids test _ lists (λ each.
    by each (id_eq each first) refl (test each)
    ∙ ap (λ (id : Option ItemId). test each || (is_id each id && not (has each))) (sym some))
  where
    plain : (b : Bool) → b ≡ (b || false)
    plain true = refl
    plain false = refl

    by : (each : ItemId) (is : Bool) → id_eq each first ≡ is → (b : Bool) → b ≡ (b || (id_eq each first && not (has each)))
    by each true is b =
        plain b ∙ ap (λ (last : Bool). b || last)
        (sym (ap₂ (λ (one two : Bool). one && not two) is (ap has (id_same each first is) ∙ same)))
    by each false is b = plain b ∙ ap (λ (last : Bool). b || last) (sym (ap (λ (one : Bool). one && not (has each)) is))
