-- Values of raw numbers, which fit 64 bits.
use Rattle.std.proofs.Common.{◌≡◌, ℕ, ◌*◌, ◌^◌, ◌≤◌, ℤ, pos, negsuc, ◌+ℤ◌, ◌*ℤ◌, ◌≤ℤ◌, arith, ap, ◌∙◌, w64, to_z, of_z}
use Rattle.std.proofs.Math.Nat.{div-le_self}
use Rattle.std.proofs.lemmas.Int.{ints, fits_signed_from_abs, unsigned_abs-mul, to_z-of_z}
use Rattle.std.specs.Int.{int_div_euclid}
use Rattle.std.specs.Int.RustNames.{unsigned_abs, FitsSigned}
use Rattle.bmc_base.specs.declared.milli.Milli.{Milli}

abbrev wide : ℤ → ℤ
wide z = to_z w64 (of_z w64 z)

-- a number that is not too large is read back from its bits
read_back : (z : ℤ) → unsigned_abs z ≤ 10 ^ 16 → wide z ≡ z
read_back z small = to_z-of_z w64 z (fits_signed_from_abs w64 z (omega (arith, small)))

-- a quotient is no larger than what is divided
quotient_small : (k : ℕ) (z d : ℤ) → pos 1 ≤ℤ d → unsigned_abs z ≤ k → unsigned_abs (int_div_euclid z d) ≤ k
quotient_small k (pos m) (pos n) low small = omega (arith, div-le_self m n)
quotient_small k (negsuc m) (pos n) low small = omega (arith, div-le_self m n)
quotient_small k (pos m) (negsuc n) low small = absurd (omega (arith, ints))
quotient_small k (negsuc m) (negsuc n) low small = absurd (omega (arith, ints))

product_small : (raw num : ℤ) → unsigned_abs raw ≤ 10 ^ 9 → unsigned_abs num ≤ 10 ^ 6 → unsigned_abs (raw *ℤ num) ≤ 10 ^ 15
product_small raw num p q =
    let m : unsigned_abs raw * unsigned_abs num ≤ 10 ^ 9 * 10 ^ 6 = grind arith in
    rw unsigned_abs-mul (omega arith)

-- the quotient of a raw number, and how large it is
pub record IsQuotient (raw num den quotient : ℤ) : Type 0 where
  pub value : quotient ≡ int_div_euclid (raw *ℤ num) den
  pub small : unsigned_abs quotient ≤ 10 ^ 15

pub quotient_is : (raw num den quotient : ℤ) → unsigned_abs raw ≤ 10 ^ 9 → unsigned_abs num ≤ 10 ^ 6 → pos 1 ≤ℤ den → unsigned_abs den ≤ 10 ^ 6
    → quotient ≡ int_div_euclid (wide (wide raw *ℤ wide num)) (wide den) → IsQuotient raw num den quotient
quotient_is raw num den quotient p q low r e =
    let product : wide (wide raw *ℤ wide num) ≡ raw *ℤ num =
    ap (λ (z : ℤ). wide (z *ℤ wide num)) (read_back raw (omega (arith, p)))
    ∙ ap (λ (z : ℤ). wide (raw *ℤ z)) (read_back num (omega (arith, q)))
    ∙ read_back (raw *ℤ num) (omega (arith, product_small raw num p q)) in
    let value : quotient ≡ int_div_euclid (raw *ℤ num) den =
    e ∙ ap (λ (z : ℤ). int_div_euclid z (wide den)) product ∙ ap (λ (z : ℤ). int_div_euclid (raw *ℤ num) z) (read_back den (omega (arith, r))) in
    record { value = value; small = rw value (quotient_small (10 ^ 15) (raw *ℤ num) den low (product_small raw num p q)) }

sum_small : (quotient offset : ℤ) → unsigned_abs quotient ≤ 10 ^ 15 → unsigned_abs offset ≤ 10 ^ 9 → unsigned_abs (quotient +ℤ offset) ≤ 10 ^ 16
sum_small (pos m) (pos n) p q = grind (arith, ints, p, q)
sum_small (pos m) (negsuc n) p q = grind (arith, ints, p, q)
sum_small (negsuc m) (pos n) p q = grind (arith, ints, p, q)
sum_small (negsuc m) (negsuc n) p q = grind (arith, ints, p, q)

sum_is : (quotient offset : ℤ) → unsigned_abs quotient ≤ 10 ^ 15 → unsigned_abs offset ≤ 10 ^ 9 → wide quotient +ℤ wide offset ≡ quotient +ℤ offset
sum_is quotient offset p q =
    ap (λ (z : ℤ). z +ℤ wide offset) (read_back quotient (omega (arith, p))) ∙ ap (λ (z : ℤ). quotient +ℤ z) (read_back offset (omega (arith, q)))

-- the sum of a quotient and an offset fits
pub sum_fits : (quotient offset : ℤ) → unsigned_abs quotient ≤ 10 ^ 15 → unsigned_abs offset ≤ 10 ^ 9 → FitsSigned w64 (wide quotient +ℤ wide offset)
sum_fits quotient offset p q =
    rw (sum_is quotient offset p q) (fits_signed_from_abs w64 (quotient +ℤ offset) (omega (arith, sum_small quotient offset p q)))

-- and is the value
pub value_is : (raw num den quotient offset : ℤ) → IsQuotient raw num den quotient → unsigned_abs offset ≤ 10 ^ 9
    → ◌≡◌ {A = Milli} (record { 0 = wide (wide quotient +ℤ wide offset) }) (record { 0 = int_div_euclid (raw *ℤ num) den +ℤ offset })
value_is raw num den quotient offset is q =
    let sum : wide (wide quotient +ℤ wide offset) ≡ quotient +ℤ offset =
    ap wide (sum_is quotient offset is.small q) ∙ read_back (quotient +ℤ offset) (sum_small quotient offset is.small q) in
    ap (λ (z : ℤ). record { 0 = z }) (sum ∙ ap (λ (z : ℤ). z +ℤ offset) is.value)
