use Rattle.std.proofs.Common.{◌≡◌, ℕ, length}
use Rattle.inventory.specs.Indexes.{kept_of}
use Rattle.inventory.specs.Keeping.{keys_of}
use Rattle.inventory.proofs.index_keep.add_lists.Given as goal

abbrev pub invariant-loop : goal.invariant-loop
invariant-loop l = record {
  kept : (number : ℕ) → kept_of (keys_of l.lists.items) number ≡ kept_of (keys_of l.fn.lists.items) number;
  many : length l.lists.items ≡ l.counter;
}
