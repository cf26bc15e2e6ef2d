use Rattle.std.proofs.Common.{◌||◌, take}
use Rattle.std.specs.List.{list_any}
use Rattle.found_set.specs.Marks.{is_marked, AreMarked}
use Rattle.found_set.specs.Buses.{leads_on}
use Rattle.found_set.proofs.reach.open_rows.Given as goal

abbrev pub invariant-loop-row : goal.invariant-loop-row
invariant-loop-row l = AreMarked l.reach (λ bus. is_marked l.initial.reach bus || list_any (leads_on l.found bus) (take l.row-index l.rows))
