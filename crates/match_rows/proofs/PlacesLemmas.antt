-- The order of places.
use Rattle.std.proofs.Common.{◌≡◌, ◌∙◌, ℕ, Bool, true, false, not, ◌&&◌, ◌==◌, refl, sym, ap, ap₂, arith}
use Rattle.std.specs.Ordering.{is_lt, is_eq, nat_cmp, ordering_then, ordering_reverse}
use Rattle.std.specs.declared.cmp.Ordering.{Ordering}
use Rattle.std.specs.declared.cmp.Ordering.TheVariants.{Less, Equal, Greater}
use Rattle.std.specs.Cmp.{IsTotalOrder}
use Rattle.std.proofs.lemmas.Bool.Decides.{nat_tests}
use Rattle.std.proofs.lemmas.Cmp.{then_total, on_total, nat_cmp_total}
use Rattle.bmc_base.specs.Places.{Place, place_cmp, place_eq}

pub place_total : IsTotalOrder place_cmp
place_total = then_total (on_total (λ (place : Place). place.bus) nat_cmp_total) (on_total (λ (place : Place). place.address) nat_cmp_total)

abbrev pub is_before : Place → Place → Bool
is_before place other = is_lt (place_cmp place other)

abbrev pub is_same : Place → Place → Bool
is_same place other = is_eq (place_cmp place other)

less : (order : Ordering) → is_lt order ≡ true → order ≡ Less
less Less true_is = refl
less Equal true_is = absurd (cc)
less Greater true_is = absurd (cc)

pub before_trans : (first second third : Place) → is_before first second ≡ true → is_before second third ≡ true → is_before first third ≡ true
before_trans first second third before later = ap is_lt (place_total.trans first second third (less _ before) (less _ later))

-- of two places that differ one comes before the other
pub other_way : (place other : Place) → is_same place other ≡ false → is_before place other ≡ not (is_before other place)
other_way place other differ =
    ap is_lt (place_total.antisymm place other) ∙ by (place_cmp other place) (sym (ap is_eq (place_total.antisymm place other)) ∙ differ)
  where
    by : (order : Ordering) → is_eq (ordering_reverse order) ≡ false → is_lt (ordering_reverse order) ≡ not (is_lt order)
    by Less differ = refl
    by Equal differ = absurd (cc)
    by Greater differ = refl

pub before_differs : (place other : Place) → is_before other place ≡ true → is_same place other ≡ false
before_differs place other before = ap is_eq (place_total.antisymm place other ∙ ap ordering_reverse (less _ before))

-- of two places not both come before the other
pub not_behind : (place other : Place) → is_before other place ≡ true → is_before place other ≡ false
not_behind place other before = ap is_lt (place_total.antisymm place other ∙ ap ordering_reverse (less _ before))

-- what comes behind one that does not come before a place is not at the place
pub behind_differs : (first place later : Place) → is_before first place ≡ false → is_before first later ≡ true → is_same place later ≡ false
behind_differs first place later late behind = by (place_cmp first place) refl late
  where
    by : (order : Ordering) → place_cmp first place ≡ order → is_lt order ≡ false → is_same place later ≡ false
    by Less is late = absurd (cc)
    by Equal is late = ap is_eq (sym (place_total.congr first place later is) ∙ less _ behind)
    by Greater is late = ap is_eq (place_total.trans place first later (place_total.antisymm place first ∙ ap ordering_reverse is) (less _ behind))

same_number : (n m : ℕ) → (m == n) ≡ is_eq (nat_cmp n m)
same_number n m = grind (arith, nat_tests)

-- two places are equal where neither comes before the other
pub equal_is_same : (place other : Place) → place_eq other place ≡ is_same place other
equal_is_same place other =
    ap₂ (λ (bus address : Bool). bus && address) (same_number place.bus other.bus) (same_number place.address other.address)
    ∙ by (nat_cmp place.bus other.bus) (nat_cmp place.address other.address)
  where
    by : (bus address : Ordering) → (is_eq bus && is_eq address) ≡ is_eq (ordering_then bus address)
    by Less address = refl
    by Equal address = refl
    by Greater address = refl
