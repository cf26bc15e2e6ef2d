-- Lists one after another whose keys ascend.
use Rattle.std.proofs.Common.{◌≡◌, ◌∙◌, ℕ, zero, suc, ◌+◌, ◌<◌, List, [], ◌∷◌, ◌++◌, map, ap, arith}
use Rattle.std.specs.List.{AllByRecursion, flat_map, range_with_len}
use Rattle.std.specs.List.Sorted.{IsStrictlySortedBy}
use Rattle.std.specs.Ordering.{nat_cmp}
use Rattle.std.specs.declared.cmp.Ordering.{Ordering}
use Rattle.std.specs.declared.cmp.Ordering.TheVariants.{Less}
use Rattle.std.proofs.lemmas.Bool.Decides.{nat_tests}
use Rattle.inventory.proofs.ListLemmas.{all_append, all_map, all_mapped, all_weaker}

-- what holds of all that comes of each element
pub all_flat_map : {X Y : Type 0} (Fact : Y → Type 0) (Cause : X → Type 0) (image : X → List Y) → ((x : X) → Cause x → AllByRecursion Fact (image x))
    → (xs : List X) → AllByRecursion Cause xs → AllByRecursion Fact (flat_map image xs)
all_flat_map Fact Cause image gives [] causes = tt
all_flat_map Fact Cause image gives (first ∷ xs) causes =
    all_append Fact (image first) (flat_map image xs) (gives first causes.0) (all_flat_map Fact Cause image gives xs causes.1)

-- one list after another
pub ascending_append : {X K : Type 0} (key : X → K) (cmp : K → K → Ordering) (front back : List X) → IsStrictlySortedBy cmp (map key front)
    → IsStrictlySortedBy cmp (map key back) → AllByRecursion (λ one. AllByRecursion (λ other. cmp (key one) (key other) ≡ Less) back) front
    → IsStrictlySortedBy cmp (map key (front ++ back))
unfolding IsStrictlySortedBy
ascending_append key cmp [] back fore aft below = aft
ascending_append key cmp (first ∷ front) back fore aft below = (
  all_map _ key (front ++ back) (all_append _ front back (all_mapped _ key front fore.0) below.0),
  ascending_append key cmp front back fore.1 aft below.1,
)

-- what comes of elements that ascend, where the key of each shows the element that it comes of
module _ {X J Y K : Type 0} (cause : X → J) (before : J → J → Ordering) (key : Y → K) (cmp : K → K → Ordering) (origin : K → J)
    (keeps : (one other : K) → before (origin one) (origin other) ≡ Less → cmp one other ≡ Less) (image : X → List Y)
    (from : (x : X) → AllByRecursion (λ y. origin (key y) ≡ cause x) (image x)) (each : (x : X) → IsStrictlySortedBy cmp (map key (image x))) where
  pub ascending_flat_map : (xs : List X) → IsStrictlySortedBy before (map cause xs) → IsStrictlySortedBy cmp (map key (flat_map image xs))
  unfolding IsStrictlySortedBy
  ascending_flat_map [] ascend = tt
  ascending_flat_map (first ∷ xs) ascend =
      ascending_append key cmp (image first) (flat_map image xs) (each first) (ascending_flat_map xs ascend.1)
      (all_weaker _ _ earlier (image first) (from first))
    where
      later : AllByRecursion (λ y. before (cause first) (origin (key y)) ≡ Less) (flat_map image xs)
      later =
          all_flat_map _ (λ x. before (cause first) (cause x) ≡ Less) image
          (λ x less. all_weaker _ _ (λ y is. ap (before (cause first)) is ∙ less) (image x) (from x)) xs (all_mapped _ cause xs ascend.0)

      earlier : (y : Y) → origin (key y) ≡ cause first → AllByRecursion (λ z. cmp (key y) (key z) ≡ Less) (flat_map image xs)
      earlier y is = all_weaker _ _ (λ z less. keeps (key y) (key z) (ap (λ j. before j (origin (key z))) is ∙ less)) (flat_map image xs) later

-- a smaller number comes before
pub number_before : (one other : ℕ) → one < other → nat_cmp one other ≡ Less
number_before one other below = grind (arith, nat_tests, below)

pub numbers_ascend : (start count : ℕ) → IsStrictlySortedBy nat_cmp (range_with_len start count)
unfolding IsStrictlySortedBy
numbers_ascend start zero = tt
numbers_ascend start (suc count) = (later start (start + 1) count (omega arith), numbers_ascend (start + 1) count)
  where
    later : (one start count : ℕ) → one < start → AllByRecursion (λ other. nat_cmp one other ≡ Less) (range_with_len start count)
    later one start zero below = tt
    later one start (suc count) below = (number_before one start below, later one (start + 1) count (omega (arith, below)))
