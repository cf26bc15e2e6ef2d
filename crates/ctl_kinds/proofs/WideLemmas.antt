-- Numbers that fit 128 bits.
use Rattle.std.proofs.Common.{◌≡◌, ℕ, ◌*◌, ◌/◌, ◌^◌, ◌≤◌, ℤ, pos, negsuc, ◌+ℤ◌, ◌-ℤ◌, ◌*ℤ◌, int_lt, arith, ap, sym, ◌∙◌, subst, w64, to_z, of_z}
use Rattle.std.proofs.Math.Nat.{div-le_self}
use Rattle.std.proofs.lemmas.Int.{ints, fits_signed_mul, unsigned_abs-mul, to_z-of_z}
use Rattle.std.specs.Int.RustNames.{unsigned_abs, FitsSigned}
use Rattle.ctl_face.specs.Floors.{floor_div}
use Rattle.ctl_face.specs.Ranges.{IsWithin, IsMicro}
use mir.Syntax.{w128}
use mir.Val.{SFits}

abbrev wide : ℤ → ℤ
wide z = to_z w128 (of_z w128 z)

abbrev narrow : ℤ → ℤ
narrow z = to_z w64 (of_z w64 z)

-- a number above another by more than a band, and below it
pub above : (a b v : ℤ) → SFits w64 a → SFits w64 b → SFits w64 v
    → int_lt (wide (wide (narrow a) +ℤ wide (narrow b))) (wide (narrow v)) ≡ int_lt (a +ℤ b) v
above a b v p q r =
    let e : wide (wide (narrow a) +ℤ wide (narrow b)) ≡ a +ℤ b = omega (arith, ints) in
    let f : wide (narrow v) ≡ v = omega (arith, ints) in
    cc

pub below : (a b v : ℤ) → SFits w64 a → SFits w64 b → SFits w64 v
    → int_lt (wide (narrow v)) (wide (wide (narrow a) -ℤ wide (narrow b))) ≡ int_lt v (a -ℤ b)
below a b v p q r =
    let e : wide (wide (narrow a) -ℤ wide (narrow b)) ≡ a -ℤ b = omega (arith, ints) in
    let f : wide (narrow v) ≡ v = omega (arith, ints) in
    cc

-- the sum of an output's parts
pub total_is : (p i d f : ℤ) → IsWithin (2 ^ 110) p → SFits w64 i → IsWithin (2 ^ 110) d → IsWithin (2 ^ 110) f
    → wide (wide (wide (wide p +ℤ wide (narrow i)) +ℤ wide d) +ℤ wide f) ≡ p +ℤ i +ℤ d +ℤ f
total_is p i d f a b g h =
    let two : wide (wide p +ℤ wide (narrow i)) ≡ p +ℤ i = omega (arith, ints) in
    let three : wide ((p +ℤ i) +ℤ wide d) ≡ p +ℤ i +ℤ d = omega (arith, ints) in
    let four : wide ((p +ℤ i +ℤ d) +ℤ wide f) ≡ p +ℤ i +ℤ d +ℤ f = omega (arith, ints) in
    ap (λ (z : ℤ). wide (wide (z +ℤ wide d) +ℤ wide f)) two ∙ (ap (λ (z : ℤ). wide (z +ℤ wide f)) three ∙ four)

-- the size of a number between -n and n
pub size_within : (n : ℕ) (z : ℤ) → IsWithin n z → unsigned_abs z ≤ n
size_within n (pos m) h = omega (arith, ints)
size_within n (negsuc m) h = omega (arith, ints)

pub within_size : (n : ℕ) (z : ℤ) → unsigned_abs z ≤ n → IsWithin n z
within_size n (pos m) h = (omega (arith, ints), omega (arith, ints))
within_size n (negsuc m) h = (omega (arith, ints), omega (arith, ints))

product_fits : (a b : ℤ) → IsMicro a → IsWithin (2 ^ 68) b → FitsSigned w128 (a *ℤ b)
product_fits a b p q = fits_signed_mul w128 a b (10 ^ 12) (2 ^ 68) (size_within (10 ^ 12) a p) (size_within (2 ^ 68) b q) (omega arith)

product_small : (a b : ℤ) → IsMicro a → IsWithin (2 ^ 68) b → unsigned_abs (a *ℤ b) ≤ 2 ^ 110
product_small a b p q =
    let x : unsigned_abs a ≤ 10 ^ 12 = size_within (10 ^ 12) a p in
    let y : unsigned_abs b ≤ 2 ^ 68 = size_within (2 ^ 68) b q in
    let m : unsigned_abs a * unsigned_abs b ≤ 10 ^ 12 * 2 ^ 68 = grind arith in
    rw unsigned_abs-mul (omega arith)

-- a quotient is no larger
quotient_small : (n k : ℕ) (z : ℤ) → unsigned_abs z ≤ k → unsigned_abs (floor_div z n) ≤ k
quotient_small n k (pos m) h = let e : m / n ≤ m = div-le_self m n in omega (arith, e, h)
quotient_small n k (negsuc m) h = let e : m / n ≤ m = div-le_self m n in omega (arith, e, h)

product_is : (a b : ℤ) → IsMicro a → IsWithin (2 ^ 68) b → wide (wide (narrow a) *ℤ wide b) ≡ a *ℤ b
product_is a b p q =
    let e : wide (narrow a) ≡ a = omega (arith, ints) in
    let f : wide b ≡ b = omega (arith, ints) in
    ap wide (ap (λ (x : ℤ). x *ℤ wide b) e ∙ ap (λ (y : ℤ). a *ℤ y) f) ∙ to_z-of_z w128 (a *ℤ b) (product_fits a b p q)

pub record IsShare (a b : ℤ) (n : ℕ) (r : ℤ) : Type 0 where
  pub value : wide r ≡ floor_div (a *ℤ b) n
  pub small : IsWithin (2 ^ 110) (wide r)

-- what the code computes as a share
pub share_is : (a b r : ℤ) (n : ℕ) → IsMicro a → IsWithin (2 ^ 68) b → SFits w128 r
    → r ≡ floor_div (wide (wide (narrow a) *ℤ wide b)) n → IsShare a b n r
share_is a b r n p q fits e =
    let value : wide r ≡ floor_div (a *ℤ b) n = to_z-of_z w128 r fits ∙ (e ∙ ap (λ (z : ℤ). floor_div z n) (product_is a b p q)) in
    record {
      value = value;
      small = subst (IsWithin (2 ^ 110)) (sym value) (within_size (2 ^ 110) _ (quotient_small n (2 ^ 110) (a *ℤ b) (product_small a b p q)));
    }
