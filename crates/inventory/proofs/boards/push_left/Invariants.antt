use Rattle.std.proofs.Common.{◌≡◌, ◌++◌, take}
use Rattle.inventory.specs.Moments.{left}
use Rattle.inventory.proofs.MergeLemmas.{IsMerged}
use Rattle.inventory.proofs.boards.push_left.Given as goal

abbrev pub invariant-loop-place : goal.invariant-loop-place
invariant-loop-place l = record {
  merged : IsMerged l.here l.there l.rest l.place-index;
  keys : l.keys ≡ l.fn.keys ++ left l.number (take l.place-index l.here) l.there;
}
