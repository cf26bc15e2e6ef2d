-- What holds of each element of a list, and lists whose elements differ or ascend.
use Rattle.std.proofs.Common.{◌≡◌, List, [], ◌∷◌, ◌++◌, Bool, true, false, cond, map, filter, refl, ap₂}
use Rattle.std.specs.List.{AllByRecursion, IsDistinct}
use Rattle.std.specs.List.Sorted.{IsStrictlySortedBy}
use Rattle.std.specs.declared.cmp.Ordering.{Ordering}
use Rattle.std.specs.declared.cmp.Ordering.TheVariants.{Less}

-- ---- what holds of each element

module _ {X : Type 0} (Fact : X → Type 0) where
  pub all_append : (front back : List X) → AllByRecursion Fact front → AllByRecursion Fact back → AllByRecursion Fact (front ++ back)
  all_append [] back fore aft = aft
  all_append (first ∷ front) back fore aft = (fore.0, all_append front back fore.1 aft)

  pub all_weaker : (Weaker : X → Type 0) → ((each : X) → Fact each → Weaker each) → (xs : List X) → AllByRecursion Fact xs → AllByRecursion Weaker xs
  all_weaker Weaker weaken [] facts = tt
  all_weaker Weaker weaken (first ∷ xs) facts = (weaken first facts.0, all_weaker Weaker weaken xs facts.1)

  pub all_any : ((each : X) → Fact each) → (xs : List X) → AllByRecursion Fact xs
  all_any fact [] = tt
  all_any fact (first ∷ xs) = (fact first, all_any fact xs)

  pub all_filter : (test : X → Bool) (xs : List X) → AllByRecursion Fact xs → AllByRecursion Fact (filter test xs)
  all_filter test [] facts = tt
  all_filter test (first ∷ xs) facts = by (test first) (all_filter test xs facts.1)
    where
      by : (passes : Bool) → AllByRecursion Fact (filter test xs) → AllByRecursion Fact (cond passes (first ∷ filter test xs) (filter test xs))
      by true rest = (facts.0, rest)
      by false rest = rest

  pub all_map : {Y : Type 0} (image : Y → X) (ys : List Y) → AllByRecursion (λ each. Fact (image each)) ys → AllByRecursion Fact (map image ys)
  all_map image [] facts = tt
  all_map image (first ∷ ys) facts = (facts.0, all_map image ys facts.1)

  pub all_mapped : {Y : Type 0} (image : Y → X) (ys : List Y) → AllByRecursion Fact (map image ys) → AllByRecursion (λ each. Fact (image each)) ys
  all_mapped image [] facts = tt
  all_mapped image (first ∷ ys) facts = (facts.0, all_mapped image ys facts.1)

-- what passes a test is left of a list
pub all_passes : {X : Type 0} (test : X → Bool) (xs : List X) → AllByRecursion (λ each. test each ≡ true) (filter test xs)
all_passes test [] = tt
all_passes {X} test (first ∷ xs) = by (test first) refl (all_passes test xs)
  where
    by : (passes : Bool) → test first ≡ passes → AllByRecursion (λ each. test each ≡ true) (filter test xs)
        → AllByRecursion (λ each. test each ≡ true) (cond passes (first ∷ filter test xs) (filter test xs))
    by true is rest = (is, rest)
    by false is rest = rest

-- ---- keys that ascend

-- a map that keeps the order
pub ascending_map : {J K : Type 0} (before : J → J → Ordering) (cmp : K → K → Ordering) (image : J → K)
    → ((one other : J) → before one other ≡ Less → cmp (image one) (image other) ≡ Less) → (js : List J) → IsStrictlySortedBy before js
    → IsStrictlySortedBy cmp (map image js)
unfolding IsStrictlySortedBy
ascending_map before cmp image keeps [] ascend = tt
ascending_map before cmp image keeps (first ∷ js) ascend =
    (all_map _ image js (all_weaker _ _ (keeps first) js ascend.0), ascending_map before cmp image keeps js ascend.1)

-- those that pass a test
pub ascending_filter : {X K : Type 0} (key : X → K) (cmp : K → K → Ordering) (test : X → Bool) (xs : List X) → IsStrictlySortedBy cmp (map key xs)
    → IsStrictlySortedBy cmp (map key (filter test xs))
unfolding IsStrictlySortedBy
ascending_filter key cmp test [] ascend = tt
ascending_filter key cmp test (first ∷ xs) ascend = by (test first) (ascending_filter key cmp test xs ascend.1)
  where
    by : (passes : Bool) → IsStrictlySortedBy cmp (map key (filter test xs))
        → IsStrictlySortedBy cmp (map key (cond passes (first ∷ filter test xs) (filter test xs)))
    by true rest = (all_map _ key _ (all_filter _ test xs (all_mapped _ key xs ascend.0)), rest)
    by false rest = rest

-- ---- elements that differ

-- those that pass a test
pub distinct_filter : {K : Type 0} (same : K → K → Bool) (test : K → Bool) (keys : List K) → IsDistinct same keys → IsDistinct same (filter test keys)
unfolding IsDistinct
distinct_filter same test [] differ = tt
distinct_filter same test (first ∷ keys) differ = by (test first) (distinct_filter same test keys differ.1)
  where
    by : (passes : Bool) → IsDistinct same (filter test keys) → IsDistinct same (cond passes (first ∷ filter test keys) (filter test keys))
    by true rest = (all_filter _ test keys differ.0, rest)
    by false rest = rest

-- one list after another, where none of the first is in the second
pub distinct_append : {K : Type 0} (same : K → K → Bool) (front back : List K) → IsDistinct same front → IsDistinct same back
    → AllByRecursion (λ one. AllByRecursion (λ other. same one other ≡ false) back) front → IsDistinct same (front ++ back)
unfolding IsDistinct
distinct_append same [] back differ later apart = later
distinct_append same (first ∷ front) back differ later apart =
    (all_append _ front back differ.0 apart.0, distinct_append same front back differ.1 later apart.1)

-- ---- filters

pub filter_alike : {X : Type 0} (test other : X → Bool) (xs : List X) → AllByRecursion (λ each. test each ≡ other each) xs → filter test xs ≡ filter other xs
filter_alike test other [] alike = refl
filter_alike {X} test other (first ∷ xs) alike =
    ap₂ (λ (passes : Bool) (rest : List X). cond passes (first ∷ rest) rest) alike.0 (filter_alike test other xs alike.1)

pub filter_none : {X : Type 0} (test : X → Bool) (xs : List X) → AllByRecursion (λ each. test each ≡ false) xs → filter test xs ≡ []
filter_none test [] none = refl
filter_none {X} test (first ∷ xs) none = ap₂ (λ (passes : Bool) (rest : List X). cond passes (first ∷ rest) rest) none.0 (filter_none test xs none.1)

pub filter_all : {X : Type 0} (test : X → Bool) (xs : List X) → AllByRecursion (λ each. test each ≡ true) xs → filter test xs ≡ xs
filter_all test [] all = refl
filter_all {X} test (first ∷ xs) all = ap₂ (λ (passes : Bool) (rest : List X). cond passes (first ∷ rest) rest) all.0 (filter_all test xs all.1)
