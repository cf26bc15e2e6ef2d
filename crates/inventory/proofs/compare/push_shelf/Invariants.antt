use Rattle.std.proofs.Common.{◌≡◌, ◌++◌, ℕ, Bool}
use Rattle.inventory.specs.Differences.{IsMarkedBy, boards_at, keys_left}
use Rattle.inventory.proofs.compare.push_shelf.Given as goal

abbrev pub invariant-loop-number : goal.invariant-loop-number
invariant-loop-number g l = record {
  gone : (found reach found_after reach_after : ℕ → Bool) → IsMarkedBy l.before.facts found reach → IsMarkedBy l.after.facts found_after reach_after
      → l.comparison.difference.gone_boards ≡ l.fn.comparison.difference.gone_boards ++ keys_left l.number (boards_at l.shelf found reach l.before)
      (boards_at l.shelf found_after reach_after l.after);
  come : (found reach found_after reach_after : ℕ → Bool) → IsMarkedBy l.before.facts found reach → IsMarkedBy l.after.facts found_after reach_after
      → l.comparison.difference.new_boards ≡ l.fn.comparison.difference.new_boards ++ keys_left l.number (boards_at l.shelf found_after reach_after l.after)
      (boards_at l.shelf found reach l.before);
}
