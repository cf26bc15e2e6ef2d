-- Numbers that fit 64 bits.
use Rattle.std.proofs.Common.{◌≡◌, ◌*◌, ◌∙◌, ℕ, zero, suc, ℤ, pos, negsuc, neg_ℤ, ◌^◌, ◌+ℤ◌, ◌-ℤ◌, ◌*ℤ◌, ap, sym, arith, refl, w64, to_z, of_z}
use Rattle.std.proofs.Math.Nat.{mul_assoc, mul_comm}
use Rattle.std.proofs.lemmas.Int.{ints}
use Rattle.ctl_face.specs.Floors.{millionths_of, floor_div}
use Rattle.ctl_face.specs.Pid.{pace}
use Rattle.ctl_face.specs.Ranges.{IsMicro, IsMilli, IsWithin}
use Rattle.ctl_face.specs.declared.setting.PidClass.{PidClass}
use mir.Val.{SFits}

abbrev narrow : ℤ → ℤ
narrow z = to_z w64 (of_z w64 z)

-- a number of which the sign is known, times another
minus_pos : (m n : ℕ) → neg_ℤ (pos m) *ℤ pos n ≡ neg_ℤ (pos (m * n))
minus_pos zero n = grind arith
minus_pos (suc m) n = refl

minus_negsuc : (m n : ℕ) → neg_ℤ (pos m) *ℤ negsuc n ≡ pos (m * suc n)
minus_negsuc zero n = grind arith
minus_negsuc (suc m) n = refl

pos_minus : (m n : ℕ) → pos m *ℤ neg_ℤ (pos n) ≡ neg_ℤ (pos (m * n))
pos_minus m zero = grind arith
pos_minus m (suc n) = refl

negsuc_minus : (m n : ℕ) → negsuc m *ℤ neg_ℤ (pos n) ≡ pos (suc m * n)
negsuc_minus m zero = grind arith
negsuc_minus m (suc n) = refl

-- a factor of one of two numbers is a factor of the other
size_moves : (m n k : ℕ) → m * k * n ≡ m * (n * k)
size_moves m n k = mul_assoc m k n ∙ ap (λ (x : ℕ). m * x) (mul_comm k n)

factor_moves : (a b : ℤ) (k : ℕ) → (a *ℤ pos k) *ℤ b ≡ a *ℤ (b *ℤ pos k)
factor_moves (pos m) (pos n) k = ap pos (size_moves m n k)
factor_moves (pos m) (negsuc n) k = ap (λ (x : ℕ). neg_ℤ (pos x)) (size_moves m (suc n) k) ∙ sym (pos_minus m (suc n * k))
factor_moves (negsuc m) (pos n) k = minus_pos (suc m * k) n ∙ ap (λ (x : ℕ). neg_ℤ (pos x)) (size_moves (suc m) n k)
factor_moves (negsuc m) (negsuc n) k =
    minus_negsuc (suc m * k) n ∙ (ap pos (size_moves (suc m) (suc n) k) ∙ sym (negsuc_minus m (suc n * k)))

-- the share of a change, by the coefficient for a step
pub change_of_step : (d error before coefficient change : ℤ) (class : PidClass) → IsMicro d → SFits w64 before
    → coefficient ≡ narrow d *ℤ pos (pace class) → change ≡ error -ℤ narrow before
    → millionths_of coefficient change ≡ millionths_of d ((error -ℤ before) *ℤ pos (pace class))
change_of_step d error before coefficient change class small fits p q =
    let e : narrow d ≡ d = omega (arith, ints) in
    let f : coefficient ≡ d *ℤ pos (pace class) = p ∙ ap (λ (z : ℤ). z *ℤ pos (pace class)) e in
    let g : change ≡ error -ℤ before = omega (arith, ints, q) in
    rw f (rw g (ap (λ (z : ℤ). floor_div z 1000000) (factor_moves d (error -ℤ before) (pace class))))

-- the sum of an output's parts
pub small_total_is : (p i d f : ℤ) → IsWithin (10 ^ 13) p → IsMilli i → IsWithin (10 ^ 13) d → IsWithin (10 ^ 13) f
    → narrow (narrow (narrow (narrow p +ℤ narrow i) +ℤ narrow d) +ℤ narrow f) ≡ p +ℤ i +ℤ d +ℤ f
small_total_is p i d f a b g h =
    let two : narrow (narrow p +ℤ narrow i) ≡ p +ℤ i = omega (arith, ints) in
    let three : narrow ((p +ℤ i) +ℤ narrow d) ≡ p +ℤ i +ℤ d = omega (arith, ints) in
    let four : narrow ((p +ℤ i +ℤ d) +ℤ narrow f) ≡ p +ℤ i +ℤ d +ℤ f = omega (arith, ints) in
    ap (λ (z : ℤ). narrow (narrow (z +ℤ narrow d) +ℤ narrow f)) two ∙ (ap (λ (z : ℤ). narrow (z +ℤ narrow f)) three ∙ four)
