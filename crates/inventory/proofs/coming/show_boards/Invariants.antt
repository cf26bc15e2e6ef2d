use Rattle.std.proofs.Common.{◌++◌, take, drop, option_map}
use Rattle.std.specs.Prelude.{option_to_list}
use Rattle.inventory.specs.Items.{entry_fields}
use Rattle.inventory.proofs.ComingLemmas.{IsListed}
use Rattle.inventory.proofs.coming.show_boards.Given as goal

abbrev pub invariant-loop-board : goal.invariant-loop-board
invariant-loop-board g l =
    IsListed (l.shelf ++ option_to_list (option_map (λ config. config.now) l.plus)) (entry_fields l.moment.entries) (take l.board-index l.boards)
    (drop l.board-index l.boards) l.list.items
