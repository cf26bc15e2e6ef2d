use Rattle.std.proofs.Common.{◌≡◌, [], drop, length, take}
use Rattle.fan_zone.specs.Live.{items_of}
use Rattle.inventory.specs.Shown.{items_of as all_items}
use Rattle.bmc_core.proofs.ActingLemmas.{Gathers}
use Rattle.bmc_core.proofs.acting.gather.Given as goal

abbrev pub invariant-loop-board : goal.invariant-loop-board
invariant-loop-board g l = record {
  gathers : Gathers l.watch l.count (items_of (take l.count l.into)) (all_items (drop l.board-index l.boards)) [] (all_items l.boards) 0 (length l.into);
  same : length l.into ≡ length l.fn.into;
}
