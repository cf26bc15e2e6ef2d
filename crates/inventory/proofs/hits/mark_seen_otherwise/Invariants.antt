use Rattle.std.proofs.Common.{take}
use Rattle.probe_lang.specs.Presents.{unboxed}
use Rattle.inventory.specs.Moments.{MarksSeenOtherwise}
use Rattle.inventory.proofs.hits.mark_seen_otherwise.Given as goal

abbrev pub invariant-loop-entry : goal.invariant-loop-entry
invariant-loop-entry l = MarksSeenOtherwise l.fn.marks l.marks l.facts l.facts_after (unboxed (take l.entry-index l.entries))
