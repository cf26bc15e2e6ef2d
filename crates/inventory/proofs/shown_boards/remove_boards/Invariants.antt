use Rattle.std.proofs.Common.{◌≡◌, ◌≤◌, take, vec_len, vec_capacity}
use Rattle.inventory.specs.Shown.{without_keys, AreOrdered}
use Rattle.inventory.proofs.shown_boards.remove_boards.Given as goal

abbrev pub invariant-loop-key : goal.invariant-loop-key
invariant-loop-key l = record {
  items : AreOrdered l.fn.boards.items → l.boards.items ≡ without_keys (take l.key-index l.keys) l.fn.boards.items;
  len : vec_len l.boards ≤ vec_len l.fn.boards;
  capacity : vec_capacity l.boards ≡ vec_capacity l.fn.boards;
}
