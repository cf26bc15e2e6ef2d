-- Division that rounds down.
use Rattle.std.specs.Prelude.{ℕ, ℤ, pos, ◌*ℤ◌}
use Rattle.std.specs.Int.{int_div_euclid, int_max, int_min}

-- the greatest whole number that is not above z / n
abbrev pub floor_div : ℤ → ℕ → ℤ
floor_div z n = int_div_euclid z (pos n)

-- so many millionths of a number, rounded down
abbrev pub millionths_of : ℤ → ℤ → ℤ
millionths_of coefficient z = floor_div (coefficient *ℤ z) 1000000

-- the number of the range that is nearest to z
abbrev pub clamped : ℤ → ℤ → ℤ → ℤ
clamped low high z = int_max low (int_min z high)
