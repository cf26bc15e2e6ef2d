use Rattle.std.proofs.Common.{◌<◌, take}
use Rattle.std.specs.List.{All}
use Rattle.inventory.specs.declared.board.BoardKey.{BoardKey}
use Rattle.inventory.proofs.index_keep.list_count.Given as goal

abbrev pub invariant-loop-key : goal.invariant-loop-key
invariant-loop-key l = All (λ (key : BoardKey). key.config < l.count) (take l.key-index l.keys)
