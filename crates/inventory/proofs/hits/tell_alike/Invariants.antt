use Rattle.std.proofs.Common.{ℕ, Bool, take}
use Rattle.found_set.specs.Marks.{AreMarked}
use Rattle.probe_lang.specs.Presents.{unboxed}
use Rattle.inventory.specs.Moments.{AreSeenAlike}
use Rattle.inventory.proofs.hits.tell_alike.Given as goal

abbrev pub invariant-loop-entry : goal.invariant-loop-entry
invariant-loop-entry l = (reach reach_after : ℕ → Bool) → AreMarked l.facts.reach reach → AreMarked l.facts_after.reach reach_after
    → AreSeenAlike reach reach_after (unboxed (take l.entry-index l.entries))
