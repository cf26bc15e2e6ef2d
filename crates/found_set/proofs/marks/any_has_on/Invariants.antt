use Rattle.std.proofs.Common.{◌≡◌, ℕ, Bool, false, take}
use Rattle.std.specs.List.{list_any}
use Rattle.found_set.specs.Marks.{AreMarked}
use Rattle.found_set.specs.Buses.{has_on}
use Rattle.found_set.proofs.marks.any_has_on.Given as goal

abbrev pub invariant-loop-row : goal.invariant-loop-row
invariant-loop-row l = (test : ℕ → Bool) → AreMarked l.buses test → list_any (has_on test l.hit.config l.hit.pattern) (take l.row-index l.rows) ≡ false
