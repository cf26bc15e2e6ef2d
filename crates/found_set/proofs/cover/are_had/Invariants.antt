use Rattle.std.proofs.Common.{◌≡◌, ℕ, Bool, true, take}
use Rattle.found_set.specs.Marks.{AreMarked}
use Rattle.found_set.specs.Covers.{are_had}
use Rattle.found_set.proofs.cover.are_had.Given as goal

abbrev pub invariant-loop-hit : goal.invariant-loop-hit
invariant-loop-hit l = (test : ℕ → Bool) → AreMarked l.buses test → are_had test (take l.hit-index l.hits) l.rows ≡ true
