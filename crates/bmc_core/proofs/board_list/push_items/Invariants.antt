use Rattle.std.proofs.Common.{◌≡◌, ◌++◌, take, string_bytes}
use Rattle.bmc_core.specs.Lists.{item_rows}
use Rattle.bmc_core.proofs.board_list.push_items.Given as goal

abbrev pub invariant-loop-item : goal.invariant-loop-item
invariant-loop-item g l = string_bytes l.text ≡ string_bytes l.fn.text ++ item_rows l.watch l.exposes (take l.item-index l.items)
