use Rattle.std.proofs.Common.{◌≡◌, ℕ, ◌+◌, ◌<◌, ◌≤◌, length, take}
use Rattle.inventory.specs.Indexes.{kept_of, with_boards}
use Rattle.inventory.specs.Differences.{places_of}
use Rattle.inventory.specs.Keeping.{keys_of, room_of}
use Rattle.inventory.proofs.index_keep.keep_boards.Given as goal

abbrev pub invariant-loop-key : goal.invariant-loop-key
invariant-loop-key l = record {
  many : length l.lists ≡ length l.fn.lists;
  kept : (number : ℕ) → kept_of (keys_of l.lists) number ≡ with_boards (kept_of (keys_of l.fn.lists) number) (places_of number (take l.key-index l.keys));
  room : (number : ℕ) → number < length l.fn.lists
      → length (places_of number l.keys) ≤ room_of l.lists number + length (places_of number (take l.key-index l.keys));
}
