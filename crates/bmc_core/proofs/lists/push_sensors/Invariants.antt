use Rattle.std.proofs.Common.{◌≡◌, ◌++◌, take, string_bytes}
use Rattle.std.specs.List.{flat_map}
use Rattle.inventory.specs.declared.shown.Shown.{Shown}
use Rattle.bmc_core.specs.Lists.{row_if_live}
use Rattle.bmc_core.proofs.lists.push_sensors.Given as goal

abbrev pub invariant-loop-board : goal.invariant-loop-board
invariant-loop-board g l =
    string_bytes l.text ≡ string_bytes l.fn.text
    ++ flat_map (λ (board : Shown). flat_map (row_if_live l.watch l.sensors l.tick) board.items.items) (take l.board-index l.boards)
