-- The laws of values and alarms.
use Rattle.std.proofs.Common.{◌≡◌, ◌⊎◌, inl, inr, ℕ, zero, suc, ◌+◌, ◌*◌, ◌/◌, ◌%◌, ◌<◌, ◌≤◌, ℤ, pos, negsuc, ◌+ℤ◌, ◌*ℤ◌, ◌≤ℤ◌, ◌<ℤ◌, Bool, true, false, not}
use Rattle.std.proofs.Common.{◌&&◌, ◌||◌, List, [], ◌∷◌, ◌++◌, refl, sym, ap, ◌∙◌, arith}
use Rattle.std.proofs.lemmas.Int.{ints}
use Rattle.std.specs.Int.{int_div_euclid}
use Rattle.std.specs.List.{list_any}
use Rattle.bmc_base.specs.declared.milli.Milli.{Milli}
use Rattle.sensor_core.specs.declared.limit.Limit.{Limit}
use Rattle.sensor_core.specs.Limits.{IsValidLimit, is_beyond, is_back, is_on}
use Rattle.sensor_core.specs.Laws.{IsFloor, ValuesAreFloors, IsRaised, AlarmsAreRaised}
use Rattle.sensor_core.proofs.AlarmsLemmas.{on_more}

-- of numbers from zero on
below : (m n : ℕ) → 0 < n → n * (m / n) ≤ m
below m n some = omega arith

above : (m n : ℕ) → 0 < n → m < n * (m / n + 1)
above m n some =
    let rest : m % n < n = omega arith in
    let all : n * (m / n) + m % n ≡ m = omega arith in
    grind arith

one_up : (q : ℕ) → negsuc (suc q) +ℤ pos 1 ≡ negsuc q
one_up q = omega (arith, ints)

-- and of numbers below zero
negative : (m n q : ℕ) → n * q ≤ m → m < n * (q + 1) → IsFloor (negsuc m) (pos n) (negsuc q)
negative m n zero a b = record { low = omega (arith, ints); high = omega (arith, ints) }
negative m n (suc q) a b =
    let high : negsuc m <ℤ (pos n *ℤ negsuc q) = omega (arith, ints) in
    record { low = omega (arith, ints); high = rw one_up high }

floor_is : (dividend divisor : ℤ) → pos 1 ≤ℤ divisor → IsFloor dividend divisor (int_div_euclid dividend divisor)
floor_is (pos m) (pos n) some =
    let n_some : 0 < n = omega (arith, ints) in
    let a = below m n n_some in
    let b = above m n n_some in
    record { low = omega (arith, ints); high = omega (arith, ints) }
floor_is (negsuc m) (pos n) some =
    let n_some : 0 < n = omega (arith, ints) in
    negative m n (m / n) (below m n n_some) (above m n n_some)
floor_is (pos m) (negsuc n) some = absurd (omega (arith, ints))
floor_is (negsuc m) (negsuc n) some = absurd (omega (arith, ints))

pub values_are_floors : ValuesAreFloors
values_are_floors setting raw valid = floor_is _ setting.den valid.divides

raised_by : (beyond on back : Bool) → (beyond || (on && not back)) ≡ true → (beyond ≡ true) ⊎ ((on ≡ true) × (back ≡ false))
raised_by true on back e = inl refl
raised_by false true false e = inr (refl, refl)
raised_by false true true e = absurd (cc)
raised_by false false back e = absurd (cc)

raised : (limit : Limit) (values : List Milli) → IsValidLimit limit → is_on limit values ≡ true → IsRaised limit values
raised limit [] valid e = absurd (cc)
raised limit (value ∷ values) valid e =
    elim (raised_by (is_beyond limit value) (is_on limit values) (is_back limit value) (on_more limit value values valid ∙ e)) [
      | inl beyond ↦ record { later = []; raising = value; earlier = values; split = refl; beyond = beyond; none_back = refl }
      | inr on ↦ let before = raised limit values valid on.0 in record {
        later = value ∷ before.later;
        raising = before.raising;
        earlier = before.earlier;
        split = ap (λ (all : List Milli). value ∷ all) before.split;
        beyond = before.beyond;
        none_back = ap (λ (back : Bool). back || list_any (is_back limit) before.later) on.1 ∙ before.none_back;
      }
    ]

neither : (a b : Bool) → (a || b) ≡ false → (a ≡ false) × (b ≡ false)
neither true b e = absurd (cc)
neither false b e = (refl, e)

goes_on : (beyond on back : Bool) → on ≡ true → back ≡ false → (beyond || (on && not back)) ≡ true
goes_on true on back p q = refl
goes_on false true false p q = refl
goes_on false true true p q = absurd (cc)
goes_on false false back p q = absurd (cc)

on_by : (limit : Limit) (later : List Milli) (value : Milli) (earlier : List Milli) → IsValidLimit limit → is_beyond limit value ≡ true
    → list_any (is_back limit) later ≡ false → is_on limit (later ++ value ∷ earlier) ≡ true
on_by limit [] value earlier valid beyond none =
    sym (on_more limit value earlier valid)
    ∙ ap (λ (b : Bool). b || (is_on limit earlier && not (is_back limit value))) beyond
on_by limit (last ∷ later) value earlier valid beyond none =
    let parts = neither (is_back limit last) (list_any (is_back limit) later) none in
    sym (on_more limit last (later ++ value ∷ earlier) valid)
    ∙ goes_on (is_beyond limit last) _ _ (on_by limit later value earlier valid beyond parts.1) parts.0

pub alarms_are_raised : AlarmsAreRaised
alarms_are_raised limit values valid =
    (raised limit values valid, λ is. ap (is_on limit) is.split ∙ on_by limit is.later is.raising is.earlier valid is.beyond is.none_back)
