use Rattle.std.proofs.Common.{◌≡◌, ◌++◌, length, map, take}
use Rattle.inventory.specs.Indexes.{kept_of, with_boards}
use Rattle.inventory.specs.Differences.{key_of}
use Rattle.inventory.specs.Lists.{board_of}
use Rattle.inventory.proofs.listing.append_boards.Given as goal

abbrev pub invariant-loop-place : goal.invariant-loop-place
invariant-loop-place l = record {
  listed : l.boards.items ≡ l.fn.boards.items ++ map (board_of (λ _. with_boards (kept_of l.keep.kept l.number) l.places))
      (map (key_of l.number) (take l.place-index l.places));
  count : l.last ≡ length (with_boards (kept_of l.keep.kept l.number) (take l.place-index l.places));
}
