use Rattle.std.proofs.Common.{◌≡◌, ◌||◌, ◌<◌, ℕ, drop}
use Rattle.found_set.specs.Marks.{is_marked}
use Rattle.found_set.specs.Buses.{fixed_opens}
use Rattle.found_set.proofs.reach.open_rules.Given as goal

abbrev pub invariant-loop-i : goal.invariant-loop-i
invariant-loop-i g l =
    (bus : ℕ) → bus < 256
    → (is_marked l.reach bus || fixed_opens (drop l.i l.rules) (drop l.i l.found) bus) ≡ (is_marked l.initial.reach bus || fixed_opens l.rules l.found bus)
