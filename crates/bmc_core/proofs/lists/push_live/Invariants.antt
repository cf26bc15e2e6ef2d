use Rattle.std.proofs.Common.{◌≡◌, ◌++◌, take, string_bytes}
use Rattle.std.specs.List.{flat_map}
use Rattle.bmc_core.specs.Lists.{row_if_live}
use Rattle.bmc_core.proofs.lists.push_live.Given as goal

abbrev pub invariant-loop-item : goal.invariant-loop-item
invariant-loop-item g l =
    string_bytes l.text ≡ string_bytes l.fn.text ++ flat_map (row_if_live l.watch l.sensors l.tick) (take l.item-index l.items)
