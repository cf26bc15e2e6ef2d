use Rattle.std.proofs.Common.{◌≡◌, drop}
use Rattle.inventory.specs.Moments.{skip_before}
use Rattle.inventory.proofs.boards.skip_before.Given as goal

abbrev pub invariant-loop-i : goal.invariant-loop-i
invariant-loop-i l = skip_before l.board l.boards ≡ skip_before l.board (drop l.i l.boards)
