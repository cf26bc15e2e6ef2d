use Rattle.std.proofs.Common.{◌≡◌, [], take}
use Rattle.inventory.specs.Shown.{items_of as all_items}
use Rattle.bmc_core.proofs.acting.any_item.Given as goal

abbrev pub invariant-loop-board : goal.invariant-loop-board
invariant-loop-board l = all_items (take l.board-index l.boards) ≡ []
