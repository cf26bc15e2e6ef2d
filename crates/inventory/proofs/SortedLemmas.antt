-- Lists that ascend by a key, and the place of a key among them.
use Rattle.std.proofs.Common.{◌≡◌, ◌∙◌, ℕ, zero, suc, ◌+◌, ◌≤◌, ◌<◌, Bool, true, false, not, cond, ◌||◌, List, [], ◌∷◌, length, map}
use Rattle.std.proofs.Common.{filter, get_or, slice_get, Option, Some, None, refl, sym, ap, ap₂, subst, arith}
use Rattle.std.specs.Prelude.{find}
use Rattle.std.specs.Cmp.{IsTotalOrder}
use Rattle.std.specs.List.{AllByRecursion, insert, remove, list_any, prefix_len}
use Rattle.std.specs.List.Sorted.{IsStrictlySortedBy, IsPartitionedBy, IsPartitionPoint}
use Rattle.std.specs.Ordering.{is_lt, is_eq, ordering_reverse}
use Rattle.std.specs.declared.cmp.Ordering.{Ordering}
use Rattle.std.specs.declared.cmp.Ordering.TheVariants.{Less, Equal, Greater}
use Rattle.std.proofs.lemmas.List.Sums.{prefix_len_is}
use Rattle.inventory.proofs.ListLemmas.{all_map, all_mapped, all_weaker}

less_if : (order : Ordering) → is_lt order ≡ true → order ≡ Less
less_if Less is = refl
less_if Equal is = absurd (cc)
less_if Greater is = absurd (cc)

module _ {X K : Type 0} (key : X → K) (cmp : K → K → Ordering) (total : IsTotalOrder cmp) where
  abbrev pub is_before : K → X → Bool
  is_before k x = is_lt (cmp (key x) k)

  abbrev pub same : K → X → Bool
  same k x = is_eq (cmp k (key x))

  abbrev pub count : K → List X → ℕ
  count k xs = prefix_len (is_before k) xs

  abbrev pub is_there : K → Option X → Bool
  is_there k None = false
  is_there k (Some x) = same k x

  abbrev pub Sorted : List X → Type 0
  Sorted xs = IsStrictlySortedBy cmp (map key xs)

  -- ---- the order

  less_back : (one other : K) → cmp one other ≡ Less → is_eq (cmp other one) ≡ false
  less_back one other less = ap is_eq (total.antisymm other one ∙ ap ordering_reverse less)

  -- what comes behind a key that is not before another comes behind that one
  late_less : (first k other : K) → is_lt (cmp first k) ≡ false → cmp first other ≡ Less → cmp k other ≡ Less
  late_less first k other late less = by (cmp first k) refl late
    where
      by : (order : Ordering) → cmp first k ≡ order → is_lt order ≡ false → cmp k other ≡ Less
      by Less is late = absurd (cc)
      by Equal is late = sym (total.congr first k other is) ∙ less
      by Greater is late = total.trans k first other (total.antisymm k first ∙ ap ordering_reverse is) less

  -- a key that is neither before another nor the same comes behind it
  late_differs : (first k : K) → is_lt (cmp first k) ≡ false → is_eq (cmp k first) ≡ false → cmp k first ≡ Less
  late_differs first k late differs = by (cmp first k) refl late (ap is_eq (sym (total.antisymm k first)) ∙ differs)
    where
      by : (order : Ordering) → cmp first k ≡ order → is_lt order ≡ false → is_eq (ordering_reverse order) ≡ false → cmp k first ≡ Less
      by Less is late differs = absurd (cc)
      by Equal is late differs = absurd (cc)
      by Greater is late differs = total.antisymm k first ∙ ap ordering_reverse is

  later : (first : X) (xs : List X) → Sorted (first ∷ xs) → AllByRecursion (λ x. cmp (key first) (key x) ≡ Less) xs
  unfolding IsStrictlySortedBy
  later first xs sorted = all_mapped _ key xs sorted.0

  rest : (first : X) (xs : List X) → Sorted (first ∷ xs) → Sorted xs
  unfolding IsStrictlySortedBy
  rest first xs sorted = sorted.1

  behind : (k : K) (first : X) (xs : List X) → Sorted (first ∷ xs) → is_before k first ≡ false → AllByRecursion (λ x. cmp k (key x) ≡ Less) xs
  behind k first xs sorted late = all_weaker _ _ (λ x less. late_less (key first) k (key x) late less) xs (later first xs sorted)

  -- ---- the place of a key

  all_at : (Fact : X → Type 0) (xs : List X) (n : ℕ) (default : X) → AllByRecursion Fact xs → n < length xs → Fact (get_or xs n default)
  all_at Fact [] n default facts below = absurd (omega (arith, below))
  all_at Fact (first ∷ xs) zero default facts below = facts.0
  all_at Fact (first ∷ xs) (suc n) default facts below = all_at Fact xs n default facts.1 (omega (arith, below))

  pub partitioned : (k : K) (xs : List X) → Sorted xs → IsPartitionedBy (is_before k) xs
  partitioned k [] sorted m n default within below before = absurd (omega (arith, below))
  partitioned k (first ∷ xs) sorted zero zero default within below before = before
  partitioned k (first ∷ xs) sorted zero (suc n) default within below before =
      let other = key (get_or xs n default) in
      let less : cmp (key first) other ≡ Less = all_at (λ x. cmp (key first) (key x) ≡ Less) xs n default (later first xs sorted) (omega (arith, below)) in
      ap is_lt (total.trans (key first) other k less (less_if (cmp other k) before))
  partitioned k (first ∷ xs) sorted (suc m) zero default within below before = absurd (omega (arith, within))
  partitioned k (first ∷ xs) sorted (suc m) (suc n) default within below before =
      partitioned k xs (rest first xs sorted) m n default (omega (arith, within)) (omega (arith, below)) before

  pub count_is : (k : K) (xs : List X) (n : ℕ) → n ≤ length xs → IsPartitionPoint (λ x. is_before k x ≡ true) (λ x. is_before k x ≡ false) xs n → n ≡ count k xs
  count_is k [] n within point = omega (arith, within)
  count_is k (first ∷ xs) n within point =
      sym (prefix_len_is (is_before k) (first ∷ xs) n first within (λ m below. point.0 m first (omega arith) below)
      (λ below. point.1 n first (omega arith) below))

  -- ---- what is not there

  none_same : (k : K) (xs : List X) → AllByRecursion (λ x. cmp k (key x) ≡ Less) xs → filter (λ x. not (same k x)) xs ≡ xs
  none_same k [] less = refl
  none_same k (first ∷ xs) less =
      ap₂ (λ (is : Bool) (xs : List X). cond (not is) (first ∷ xs) xs) (ap is_eq less.0) (none_same k xs less.1)

  none_found : (k : K) (xs : List X) → AllByRecursion (λ x. cmp k (key x) ≡ Less) xs → find (same k) xs ≡ None
  none_found k [] less = refl
  none_found k (first ∷ xs) less = ap₂ (λ (is : Bool) (found : Option X). cond is (Some first) found) (ap is_eq less.0) (none_found k xs less.1)

  before_differs : (k : K) (x : X) → is_before k x ≡ true → same k x ≡ false
  before_differs k x before = less_back (key x) k (less_if _ before)

  next : (n : ℕ) → 1 + n ≡ suc n
  next n = omega arith

  -- what is found
  pub found : (k : K) (xs : List X) → Sorted xs → find (same k) xs ≡ cond (is_there k (slice_get xs (count k xs))) (slice_get xs (count k xs)) None
  found k [] sorted = refl
  found k (first ∷ xs) sorted = by (is_before k first) refl (found k xs (rest first xs sorted))
    where
      here : (is : Bool) → same k first ≡ is → is_before k first ≡ false → cond is (Some first) (find (same k) xs) ≡ cond is (Some first) None
      here true is late = refl
      here false is late = none_found k xs (behind k first xs sorted late)

      by : (before : Bool) → is_before k first ≡ before
          → find (same k) xs ≡ cond (is_there k (slice_get xs (count k xs))) (slice_get xs (count k xs)) None
          → find (same k) (first ∷ xs)
          ≡ cond (is_there k (slice_get (first ∷ xs) (cond before (1 + count k xs) 0))) (slice_get (first ∷ xs) (cond before (1 + count k xs) 0)) None
      by true before later =
          ap (λ (is : Bool). cond is (Some first) (find (same k) xs)) (before_differs k first before) ∙ later
          ∙ ap (λ (n : ℕ). cond (is_there k (slice_get (first ∷ xs) n)) (slice_get (first ∷ xs) n) None) (sym (next (count k xs)))
      by false late later = here (same k first) refl late

  -- what is taken out
  pub removed : (k : K) (xs : List X) → Sorted xs → cond (is_there k (slice_get xs (count k xs))) (remove xs (count k xs)) xs ≡ filter (λ x. not (same k x)) xs
  removed k [] sorted = refl
  removed k (first ∷ xs) sorted = by (is_before k first) refl (removed k xs (rest first xs sorted))
    where
      kept : List X
      kept = filter (λ x. not (same k x)) xs

      here : (is : Bool) → same k first ≡ is → is_before k first ≡ false
          → cond is xs (first ∷ xs) ≡ cond (not is) (first ∷ filter (λ x. not (same k x)) xs) (filter (λ x. not (same k x)) xs)
      here true is late = sym (none_same k xs (behind k first xs sorted late))
      here false is late = ap (λ (xs : List X). first ∷ xs) (sym (none_same k xs (behind k first xs sorted late)))

      pull : (is : Bool) (n : ℕ) → cond is (remove (first ∷ xs) (suc n)) (first ∷ xs) ≡ first ∷ cond is (remove xs n) xs
      pull true n = refl
      pull false n = refl

      by : (before : Bool) → is_before k first ≡ before
          → cond (is_there k (slice_get xs (count k xs))) (remove xs (count k xs)) xs ≡ filter (λ x. not (same k x)) xs
          → cond (is_there k (slice_get (first ∷ xs) (cond before (1 + count k xs) 0))) (remove (first ∷ xs) (cond before (1 + count k xs) 0)) (first ∷ xs)
          ≡ filter (λ x. not (same k x)) (first ∷ xs)
      by true before later =
          ap (λ (n : ℕ). cond (is_there k (slice_get (first ∷ xs) n)) (remove (first ∷ xs) n) (first ∷ xs)) (next (count k xs))
          ∙ pull (is_there k (slice_get xs (count k xs))) (count k xs) ∙ ap (λ (xs : List X). first ∷ xs) later
          ∙ ap (λ (is : Bool). cond (not is) (first ∷ filter (λ x. not (same k x)) xs) (filter (λ x. not (same k x)) xs)) (sym (before_differs k first before))
      by false late later = here (same k first) refl late

  -- what is put in
  abbrev pub with_one : X → List X → List X
  with_one x [] = x ∷ []
  with_one x (first ∷ xs) = cond (is_before (key x) first) (first ∷ with_one x xs) (x ∷ first ∷ xs)

  pub inserted : (x : X) (xs : List X) → insert xs (count (key x) xs) x ≡ with_one x xs
  inserted x [] = refl
  inserted x (first ∷ xs) = by (is_before (key x) first) (inserted x xs)
    where
      by : (before : Bool) → insert xs (count (key x) xs) x ≡ with_one x xs
          → insert (first ∷ xs) (cond before (1 + count (key x) xs) 0) x ≡ cond before (first ∷ with_one x xs) (x ∷ first ∷ xs)
      by true later = ap (λ (n : ℕ). insert (first ∷ xs) n x) (next (count (key x) xs)) ∙ ap (λ (xs : List X). first ∷ xs) later
      by false later = refl

  all_with : (Fact : X → Type 0) (x : X) (xs : List X) → Fact x → AllByRecursion Fact xs → AllByRecursion Fact (with_one x xs)
  all_with Fact x [] fact facts = (fact, tt)
  all_with Fact x (first ∷ xs) fact facts = by (is_before (key x) first) (all_with Fact x xs fact facts.1)
    where
      by : (before : Bool) → AllByRecursion Fact (with_one x xs) → AllByRecursion Fact (cond before (first ∷ with_one x xs) (x ∷ first ∷ xs))
      by true later = (facts.0, later)
      by false later = (fact, facts)

  or_none : (one other : Bool) → (one || other) ≡ false → (one ≡ false) × (other ≡ false)
  or_none true other free = absurd (cc)
  or_none false other free = (refl, free)

  pub with_sorted : (x : X) (xs : List X) → Sorted xs → list_any (same (key x)) xs ≡ false → Sorted (with_one x xs)
  unfolding IsStrictlySortedBy
  with_sorted x [] sorted free = (tt, tt)
  with_sorted x (first ∷ xs) sorted free =
      let parts = or_none (same (key x) first) (list_any (same (key x)) xs) free in
      by (is_before (key x) first) refl parts.0 (with_sorted x xs (rest first xs sorted) parts.1)
    where
      by : (before : Bool) → is_before (key x) first ≡ before → same (key x) first ≡ false → IsStrictlySortedBy cmp (map key (with_one x xs))
          → IsStrictlySortedBy cmp (map key (cond before (first ∷ with_one x xs) (x ∷ first ∷ xs)))
      by true before free more =
          (all_map _ key (with_one x xs) (all_with (λ other. cmp (key first) (key other) ≡ Less) x xs (less_if _ before) (later first xs sorted)), more)
      by false late free more =
          let less : cmp (key x) (key first) ≡ Less = late_differs (key first) (key x) late free in
          (all_map _ key (first ∷ xs) (less, behind (key x) first xs sorted late), sorted)

  all_without : (Fact : X → Type 0) (x : X) (xs : List X) → AllByRecursion Fact (with_one x xs) → AllByRecursion Fact xs
  all_without Fact x [] facts = tt
  all_without Fact x (first ∷ xs) facts = by (is_before (key x) first) facts (all_without Fact x xs)
    where
      by : (before : Bool) → AllByRecursion Fact (cond before (first ∷ with_one x xs) (x ∷ first ∷ xs))
          → (AllByRecursion Fact (with_one x xs) → AllByRecursion Fact xs) → AllByRecursion Fact (first ∷ xs)
      by true facts later = (facts.0, later facts.1)
      by false facts later = facts.1

  pub sorted_without : (x : X) (xs : List X) → Sorted (with_one x xs) → Sorted xs
  unfolding IsStrictlySortedBy
  sorted_without x [] sorted = tt
  sorted_without x (first ∷ xs) sorted = by (is_before (key x) first) sorted (sorted_without x xs)
    where
      by : (before : Bool) → IsStrictlySortedBy cmp (map key (cond before (first ∷ with_one x xs) (x ∷ first ∷ xs)))
          → (IsStrictlySortedBy cmp (map key (with_one x xs)) → IsStrictlySortedBy cmp (map key xs)) → IsStrictlySortedBy cmp (map key (first ∷ xs))
      by true sorted later =
          (all_map _ key xs (all_without (λ other. cmp (key first) (key other) ≡ Less) x xs (all_mapped _ key (with_one x xs) sorted.0)), later sorted.1)
      by false sorted later = sorted.1

  pub any_with : (test : X → Bool) (x : X) (xs : List X) → list_any test (with_one x xs) ≡ (list_any test xs || test x)
  any_with test x [] = swap (test x)
    where
      swap : (is : Bool) → (is || false) ≡ (false || is)
      swap true = refl
      swap false = refl
  any_with test x (first ∷ xs) = by (is_before (key x) first) (any_with test x xs)
    where
      or_both : (one other last : Bool) → other ≡ last → (one || other) ≡ (one || last)
      or_both one other last same = ap (λ (is : Bool). one || is) same

      assoc : (one other last : Bool) → (one || (other || last)) ≡ ((one || other) || last)
      assoc true other last = refl
      assoc false other last = refl

      turn : (one other : Bool) → (one || other) ≡ (other || one)
      turn true true = refl
      turn true false = refl
      turn false true = refl
      turn false false = refl

      by : (before : Bool) → list_any test (with_one x xs) ≡ (list_any test xs || test x)
          → list_any test (cond before (first ∷ with_one x xs) (x ∷ first ∷ xs)) ≡ ((test first || list_any test xs) || test x)
      by true later = or_both (test first) _ _ later ∙ assoc (test first) (list_any test xs) (test x)
      by false later = turn (test x) (test first || list_any test xs)

  -- ---- lists that ascend

  -- what stands first of a filter is in the list
  first_in : (test : X → Bool) (zs : List X) (z : X) (more : List X) (Fact : X → Type 0) → AllByRecursion Fact zs → z ∷ more ≡ filter test zs → Fact z
  first_in test [] z more Fact facts is = absurd (cc)
  first_in test (first ∷ zs) z more Fact facts is = pick (test first) is (first_in test zs z more Fact facts.1)
    where
      pick : (passes : Bool) → z ∷ more ≡ cond passes (first ∷ filter test zs) (filter test zs) → (z ∷ more ≡ filter test zs → Fact z) → Fact z
      pick true is later = let e : first ≡ z = cc in subst Fact e facts.0
      pick false is later = later is

  not_before_itself : (order : Ordering) → order ≡ Less → order ≡ ordering_reverse order → ⊥
  not_before_itself Less is turned = absurd (cc)
  not_before_itself Equal is turned = absurd (cc)
  not_before_itself Greater is turned = absurd (cc)

  clash : (z : X) → cmp (key z) (key z) ≡ Less → ⊥
  clash z less = not_before_itself (cmp (key z) (key z)) less (total.antisymm (key z) (key z))

  none_left : (test : X → Bool) (y : X) (ys : List X) (is : Bool) → [] ≡ cond is (y ∷ filter test ys) (filter test ys)
      → [] ≡ cond (not is) (y ∷ filter (λ x. not (test x)) ys) (filter (λ x. not (test x)) ys) → ⊥
  none_left test y ys true pass fail = absurd (cc)
  none_left test y ys false pass fail = absurd (cc)

  -- two lists that ascend are one, where they are alike in what passes a test and in what fails it
  pub one_list : (test : X → Bool) (xs ys : List X) → Sorted xs → Sorted ys → filter test xs ≡ filter test ys
      → filter (λ x. not (test x)) xs ≡ filter (λ x. not (test x)) ys → xs ≡ ys
  one_list test [] [] sorted other pass fail = refl
  one_list test [] (y ∷ ys) sorted other pass fail = absurd (none_left test y ys (test y) pass fail)
  one_list test (x ∷ xs) [] sorted other pass fail = absurd (none_left test x xs (test x) (sym pass) (sym fail))
  one_list test (x ∷ xs) (y ∷ ys) sorted other pass fail =
      by (test x) (test y) pass fail (λ more. one_list test xs ys (rest x xs sorted) (rest y ys other) more)
    where
      by : (one two : Bool) → cond one (x ∷ filter test xs) (filter test xs) ≡ cond two (y ∷ filter test ys) (filter test ys)
          → cond (not one) (x ∷ filter (λ x. not (test x)) xs) (filter (λ x. not (test x)) xs)
          ≡ cond (not two) (y ∷ filter (λ x. not (test x)) ys) (filter (λ x. not (test x)) ys)
          → (filter test xs ≡ filter test ys → filter (λ x. not (test x)) xs ≡ filter (λ x. not (test x)) ys → xs ≡ ys)
          → x ∷ xs ≡ y ∷ ys
      by true true pass fail later =
          let first : x ≡ y = cc in
          let more : filter test xs ≡ filter test ys = cc in
          ap₂ (λ (z : X) (zs : List X). z ∷ zs) first (later more fail)
      by false false pass fail later =
          let first : x ≡ y = cc in
          let more : filter (λ x. not (test x)) xs ≡ filter (λ x. not (test x)) ys = cc in
          ap₂ (λ (z : X) (zs : List X). z ∷ zs) first (later pass more)
      by true false pass fail later_is =
          let up : cmp (key y) (key x) ≡ Less = first_in test ys x (filter test xs) (λ z. cmp (key y) (key z) ≡ Less) (later y ys other) pass in
          let down : cmp (key x) (key y) ≡ Less =
          first_in (λ x. not (test x)) xs y (filter (λ x. not (test x)) ys) (λ z. cmp (key x) (key z) ≡ Less) (later x xs sorted) (sym fail) in
          absurd (clash x (total.trans (key x) (key y) (key x) down up))
      by false true pass fail later_is =
          let up : cmp (key x) (key y) ≡ Less = first_in test xs y (filter test ys) (λ z. cmp (key x) (key z) ≡ Less) (later x xs sorted) (sym pass) in
          let down : cmp (key y) (key x) ≡ Less =
          first_in (λ x. not (test x)) ys x (filter (λ x. not (test x)) xs) (λ z. cmp (key y) (key z) ≡ Less) (later y ys other) fail in
          absurd (clash x (total.trans (key x) (key y) (key x) up down))
