use Rattle.std.proofs.Common.{◌≡◌, ℕ, Bool, [], map, take}
use Rattle.probe_lang.specs.Sights.{entry_sight}
use Rattle.found_set.specs.Marks.{AreMarked}
use Rattle.inventory.specs.Boards.{hit_places}
use Rattle.probe_lang.specs.Presents.{unboxed}
use Rattle.inventory.proofs.hits.first_hit.Given as goal

abbrev pub invariant-loop-entry : goal.invariant-loop-entry
invariant-loop-entry l = (reach : ℕ → Bool) → AreMarked l.facts.reach reach
    → hit_places reach (map entry_sight (unboxed (take l.entry-index l.entries))) l.number ≡ []
