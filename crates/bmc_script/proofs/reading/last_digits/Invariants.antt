use Rattle.std.proofs.Common.{◌≡◌, length, take}
use Rattle.bmc_script.proofs.ReadingsLemmas.{IsReadFrom}
use Rattle.bmc_script.proofs.reading.last_digits.Given as goal

-- what is left in front, and the number of the digits behind it
abbrev pub invariant-loop-front : goal.invariant-loop-front
invariant-loop-front l = record {
  whole : l.front ≡ take (length l.front) l.text;
  read : IsReadFrom l.text (length l.front) l.number l.unit;
}

abbrev pub decreases-loop-front : goal.decreases-loop-front
decreases-loop-front l = length l.front
