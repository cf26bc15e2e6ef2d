-- A number of at most four hexadecimal digits is below the power of sixteen.
use Rattle.std.proofs.Common.{ℕ, ◌<◌, ◌≤◌, ◌^◌, arith}
use Rattle.std.proofs.Math.Nat.{pow-le-pow_right}
use Rattle.tmpl.proofs.number.read_hex.Goals as goal

below_most : (value n : ℕ) → value < 16 ^ n → n ≤ 4 → value < 65536
below_most value n below within = let more : 16 ^ n ≤ 16 ^ 4 = pow-le-pow_right {n = 16} (omega arith) {i = n} {j = 4} within in omega (arith, more)

pub overflow_mul-value : goal.overflow_mul-value
overflow_mul-value c =
    let below : c.loop-byte.value < 65536 =
    below_most c.loop-byte.value c.loop-byte.byte-index c.loop-byte.invariant.below (omega (arith, c.if-text-gt-HEX_DIGITS.false)) in
    omega (arith, below)

pub overflow_add-value : goal.overflow_add-value
overflow_add-value c =
    let below : c.loop-byte.value < 65536 =
    below_most c.loop-byte.value c.loop-byte.byte-index c.loop-byte.invariant.below (omega (arith, c.if-text-gt-HEX_DIGITS.false)) in
    omega (arith, below, c.in_ok-digit.ensures.value)

pub returns-clause-below : goal.returns-clause-below
returns-clause-below c =
    below_most c.loop-byte.value c.loop-byte.byte-index c.loop-byte.invariant.below (omega (arith, c.if-text-gt-HEX_DIGITS.false))
