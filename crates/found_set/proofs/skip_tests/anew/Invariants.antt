use Rattle.std.proofs.Common.{◌≡◌, length}
use Rattle.found_set.proofs.skip_tests.anew.Given as goal

abbrev pub invariant-loop-at : goal.invariant-loop-at
invariant-loop-at l = length l.set.rules ≡ 6
