use Rattle.std.proofs.Common.{◌≡◌, ◌++◌, ℕ, Bool, take}
use Rattle.found_set.specs.Marks.{AreMarked}
use Rattle.probe_lang.specs.Presents.{unboxed}
use Rattle.inventory.specs.Moments.{entries_of, otherwise_of}
use Rattle.inventory.proofs.hits.push_otherwise.Given as goal

abbrev pub invariant-loop-entry : goal.invariant-loop-entry
invariant-loop-entry l = (reach reach_after : ℕ → Bool) → AreMarked l.facts.reach reach → AreMarked l.facts_after.reach reach_after
    → entries_of l.list.items ≡ entries_of l.fn.list.items ++ otherwise_of reach reach_after l.changed (unboxed (take l.entry-index l.entries))
