-- A partition point is the length of the front that passes.
use Rattle.std.proofs.Common.{rules}
use Rattle.std.proofs.lemmas.Fn.{always_returns_same}
use Rattle.inventory.specs.Orders.{key_cmp}
use Rattle.inventory.proofs.IdsLemmas.{key_total}
use Rattle.inventory.proofs.ShownLemmas.{key_of_board}
use Rattle.inventory.proofs.SortedLemmas.{count_is, is_before, partitioned}
use Rattle.inventory.proofs.shown_boards.boards_before.Goals as goal

pub returns-clause-value : goal.returns-clause-value
returns-clause-value c ascend =
    let xs = c.args.boards.now in
    let k = c.args.key.now in
    let point =
    c.partition_point.ensures.partitioned (is_before key_of_board key_cmp key_total k) (always_returns_same _ _ _ (λ each answer after called. search rules))
    (partitioned key_of_board key_cmp key_total k xs ascend) in
    count_is key_of_board key_cmp key_total k xs c.partition_point.result c.partition_point.ensures.bound point
