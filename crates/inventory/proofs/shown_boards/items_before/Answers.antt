-- A partition point is the length of the front that passes.
use Rattle.std.proofs.Common.{rules}
use Rattle.std.proofs.lemmas.Fn.{always_returns_same}
use Rattle.inventory.specs.Orders.{id_cmp}
use Rattle.inventory.proofs.IdsLemmas.{id_total}
use Rattle.inventory.proofs.ShownLemmas.{id_of}
use Rattle.inventory.proofs.SortedLemmas.{count_is, is_before, partitioned}
use Rattle.inventory.proofs.shown_boards.items_before.Goals as goal

pub returns-clause-value : goal.returns-clause-value
returns-clause-value c ascend =
    let xs = c.args.items.now in
    let k = c.args.id.now in
    let point =
    c.partition_point.ensures.partitioned (is_before id_of id_cmp id_total k) (always_returns_same _ _ _ (λ each answer after called. search rules))
    (partitioned id_of id_cmp id_total k xs ascend) in
    count_is id_of id_cmp id_total k xs c.partition_point.result c.partition_point.ensures.bound point
