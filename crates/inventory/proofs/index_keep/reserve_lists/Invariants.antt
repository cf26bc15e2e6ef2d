use Rattle.std.proofs.Common.{◌≡◌, ℕ, length, take}
use Rattle.inventory.specs.Indexes.{kept_of}
use Rattle.inventory.specs.Keeping.{keys_of, IsGreatest, IsReady}
use Rattle.inventory.proofs.index_keep.reserve_lists.Given as goal

abbrev pub invariant-loop-i : goal.invariant-loop-i
invariant-loop-i l = record {
  many : length l.lists ≡ length l.fn.lists;
  kept : (number : ℕ) → kept_of (keys_of l.lists) number ≡ kept_of (keys_of l.fn.lists) number;
  greatest : IsGreatest (take l.i l.keys) l.greatest.end l.greatest.count;
  ready : (number : ℕ) → IsReady (take l.i l.keys) l.lists number;
}
