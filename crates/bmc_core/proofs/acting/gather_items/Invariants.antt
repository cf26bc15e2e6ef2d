use Rattle.std.proofs.Common.{◌≡◌, drop, length, take}
use Rattle.fan_zone.specs.Live.{items_of}
use Rattle.bmc_core.proofs.ActingLemmas.{Gathers}
use Rattle.bmc_core.proofs.acting.gather_items.Given as goal

abbrev pub invariant-loop-item : goal.invariant-loop-item
invariant-loop-item g l = record {
  gathers : Gathers l.watch l.count (items_of (take l.count l.into)) (drop l.item-index l.items) (items_of (take l.fn.count l.fn.into)) l.items l.fn.count
      (length l.into);
  same : length l.into ≡ length l.fn.into;
}
