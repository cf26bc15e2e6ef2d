-- Lemmas on what a sink tells.
use Rattle.std.proofs.Common.{◌≡◌, ℕ, List, [], ◌++◌, length, refl, ap, append_assoc, append-nil, length-append, arith}
use Rattle.bmc_io.specs.Told.{Told, counted, added}
use Rattle.bmc_io.specs.Told.Told.{Nothing, Count, Bytes}

-- a count after two numbers more is the count after their sum
counted_more : (count : ℕ) (first second : List ℕ) → added (counted count (length first)) second ≡ counted count (length (first ++ second))
counted_more count first second = grind (arith, length-append)

-- what is told after two pieces is what is told after both as one
pub added_more : (told : Told) (first second : List ℕ) → added (added told first) second ≡ added told (first ++ second)
added_more Nothing first second = refl
added_more (Count count) first second = counted_more count first second
added_more (Bytes old) first second = ap Bytes (append_assoc old first second)

-- no bytes more are told by telling the same
pub added_none : (told : Told) → added told [] ≡ told
added_none Nothing = refl
added_none (Count count) = grind arith
added_none (Bytes old) = ap Bytes (append-nil old)
