-- Powers of ten.
use Rattle.std.proofs.Common.{◌<◌, ◌≤◌, ◌*◌, ◌^◌, ℕ, arith}
use Rattle.std.proofs.Math.Nat.{pow-le-pow_right, mul-le-mul}

pub power_le : (n m : ℕ) → n ≤ m → 10 ^ n ≤ 10 ^ m
power_le n m within = pow-le-pow_right {n = 10} (omega arith) {i = n} {j = m} within

-- what has so many digits has no more than it may have
pub below_power : (value n m : ℕ) → value < 10 ^ n → n ≤ m → value < 10 ^ m
below_power value n m below within = let more = power_le n m within in omega (arith, more)

-- ten digits in units of a millionth at the least
pub units_below : (value places : ℕ) → value < 10 ^ 10 → places ≤ 6 → value * 10 ^ places < 2 ^ 62
units_below value places below within =
    let at_most : value ≤ 10 ^ 10 = omega (arith, below) in
    let most : value * 10 ^ places ≤ 10 ^ 10 * 10 ^ 6 = mul-le-mul at_most (power_le places 6 within) in
    omega (arith, most)
