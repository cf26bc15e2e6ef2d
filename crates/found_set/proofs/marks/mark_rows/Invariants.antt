use Rattle.std.proofs.Common.{ℕ, Bool, ◌||◌, take}
use Rattle.std.specs.List.{list_any}
use Rattle.found_set.specs.Marks.{is_true, AreMarked, AreTrue}
use Rattle.found_set.specs.Buses.{has_on}
use Rattle.found_set.proofs.marks.mark_rows.Given as goal

abbrev pub invariant-loop-row : goal.invariant-loop-row
invariant-loop-row l =
    (test : ℕ → Bool) → AreMarked l.buses test → AreTrue l.marks (λ c p. is_true l.initial.marks c p || list_any (has_on test c p) (take l.row-index l.rows))
