use Rattle.std.proofs.Common.{◌≡◌, ◌++◌, ℕ, Bool, take}
use Rattle.found_set.specs.Marks.{AreMarked}
use Rattle.inventory.specs.Moments.{entries_of, hits_in}
use Rattle.inventory.proofs.hits.push_hits_among.Given as goal

abbrev pub invariant-loop-entry : goal.invariant-loop-entry
invariant-loop-entry l = (reach : ℕ → Bool) → AreMarked l.facts.reach reach
    → l.places.items ≡ l.fn.places.items ++ hits_in reach (entries_of (take l.entry-index l.entries)) l.number
