-- The text of a number of thousandths.
use Rattle.std.specs.Prelude.{ℕ, ℤ, pos, negsuc, suc, ◌/◌, ◌%◌, List, ◌++◌, codes}
use Rattle.std.specs.Fmt.{decimal}

-- the whole part, a point and three digits
abbrev pub size_text : ℕ → List ℕ
size_text n = decimal (n / 1000) ++ codes "." ++ decimal (n / 100 % 10) ++ decimal (n / 10 % 10) ++ decimal (n % 10)

-- a minus before a negative number
abbrev pub milli_text : ℤ → List ℕ
milli_text (pos n) = size_text n
milli_text (negsuc n) = codes "-" ++ size_text (suc n)
