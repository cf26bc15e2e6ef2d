use Rattle.std.proofs.Common.{◌≡◌, length}
use Rattle.found_set.proofs.skip_tests.assert_evals.Given as goal

abbrev pub invariant-loop-comes : goal.invariant-loop-comes
invariant-loop-comes g l = length l.set.rules ≡ 6
