-- Division rounds down.
use Rattle.std.proofs.Common.{◌≡◌, ℕ, zero, suc, ◌<◌, ◌≤◌, ◌*◌, ◌/◌, ◌+◌, ℤ, pos, negsuc, ◌+ℤ◌, ◌*ℤ◌, arith, sym, subst}
use lib.Signed.{◌≤ℤ◌, ◌<ℤ◌}
use Rattle.std.proofs.lemmas.Int.{ints}
use Rattle.std.proofs.Math.Nat.{div-mul-le_self, lt-mul-div-succ}
use Rattle.ctl_face.specs.Floors.{floor_div}

-- a is below the next multiple
below_next : (a n : ℕ) → 0 < n → a < suc (a / n) * n
below_next a n h =
    let m : a < n * (a / n + 1) = lt-mul-div-succ a h in
    let e : n * (a / n + 1) ≡ suc (a / n) * n = grind arith in
    omega (arith, m, e)

pub not_above : (z : ℤ) (n : ℕ) → 0 < n → (floor_div z n *ℤ pos n) ≤ℤ z
not_above (pos a) n h = let m : a / n * n ≤ a = div-mul-le_self a n in omega (arith, ints, m)
not_above (negsuc a) n h = let m : a < suc (a / n) * n = below_next a n h in omega (arith, ints, m)

-- the same at -(q + 1)
next_below_zero : (q n a : ℕ) → q * n ≤ a → negsuc a <ℤ ((negsuc q +ℤ pos 1) *ℤ pos n)
next_below_zero zero n a m = omega (arith, ints)
next_below_zero (suc q) n a m =
    let e : negsuc (suc q) +ℤ pos 1 ≡ negsuc q = omega (arith, ints) in
    subst (λ (z : ℤ). negsuc a <ℤ (z *ℤ pos n)) (sym e) (omega (arith, ints, m))

pub next_above : (z : ℤ) (n : ℕ) → 0 < n → z <ℤ ((floor_div z n +ℤ pos 1) *ℤ pos n)
next_above (pos a) n h =
    let m : a < suc (a / n) * n = below_next a n h in
    let e : (a / n + 1) * n ≡ suc (a / n) * n = grind arith in
    omega (arith, ints, m, e)
next_above (negsuc a) n h = next_below_zero (a / n) n a (div-mul-le_self a n)
