use Rattle.std.proofs.Common.{◌≡◌, length}
use Rattle.found_set.proofs.skip_tests.many_events_give_the_facts_of_a_new_set.Given as goal

abbrev pub invariant-loop-event : goal.invariant-loop-event
invariant-loop-event g l = length l.set.rules ≡ 6
