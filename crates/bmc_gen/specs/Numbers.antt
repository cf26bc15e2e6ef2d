-- The numbers that choose the lines of a sample script.
use Rattle.std.specs.Prelude.{ℕ, zero, suc, ◌+◌, ◌*◌, ◌/◌, ◌%◌, ◌^◌}

-- the number that follows another
abbrev pub next_number : ℕ → ℕ
next_number x = (x * 1103515245 + 12345) % 2 ^ 31

-- the seed, and the numbers that follow it
abbrev pub number : ℕ → ℕ → ℕ
number seed zero = seed
number seed (suc i) = next_number (number seed i)

-- the line at a position, from 1, is chosen by the upper bits of the number there
abbrev pub choice : ℕ → ℕ → ℕ
choice seed position = number seed position / 65536
