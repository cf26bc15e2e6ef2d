use Rattle.std.proofs.Common.{◌≡◌, ℕ, Bool, false, take}
use Rattle.std.specs.List.{list_any}
use Rattle.found_set.specs.Marks.{AreMarked}
use Rattle.found_set.specs.Buses.{is_on_bus}
use Rattle.found_set.proofs.marks.any_is_on.Given as goal

abbrev pub invariant-loop-row : goal.invariant-loop-row
invariant-loop-row l = (test : ℕ → Bool) → AreMarked l.buses test → list_any (is_on_bus test) (take l.row-index l.rows) ≡ false
