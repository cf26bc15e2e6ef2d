use Rattle.std.proofs.Common.{◌≡◌, ◌+◌, ◌≤◌, vec_len, vec_capacity}
use Rattle.inventory.specs.Shown.{with_all}
use Rattle.inventory.specs.Shown.{AreOrdered}
use Rattle.inventory.proofs.shown_boards.insert_boards.Given as goal

abbrev pub invariant-loop : goal.invariant-loop
invariant-loop l = record {
  all : AreOrdered (with_all l.fn.more.items l.fn.boards.items) → with_all l.more.items l.boards.items ≡ with_all l.fn.more.items l.fn.boards.items;
  left : vec_len l.more + l.counter ≡ l.end;
  room : vec_len l.boards + vec_len l.more ≤ vec_capacity l.boards;
}
