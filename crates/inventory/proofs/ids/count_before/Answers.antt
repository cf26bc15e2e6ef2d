-- A partition point is the length of the front that passes.
use Rattle.std.proofs.Common.{rules, subst, sym}
use mathlib.Core.List.{map-id}
use Rattle.std.proofs.lemmas.Fn.{always_returns_same}
use Rattle.std.specs.List.Sorted.{IsStrictlySortedBy}
use Rattle.inventory.specs.Orders.{id_cmp}
use Rattle.inventory.proofs.IdListsLemmas.{its_id}
use Rattle.inventory.proofs.IdsLemmas.{id_total}
use Rattle.inventory.proofs.SortedLemmas.{count_is, is_before, partitioned}
use Rattle.inventory.proofs.ids.count_before.Goals as goal

pub returns-clause-value : goal.returns-clause-value
returns-clause-value c ascend =
    let ids = c.args.ids.now in
    let id = c.args.id.now in
    let sorted = subst (IsStrictlySortedBy id_cmp) (sym (map-id ids)) ascend in
    let point =
    c.partition_point.ensures.partitioned (is_before its_id id_cmp id_total id) (always_returns_same _ _ _ (λ each answer after called. search rules))
    (partitioned its_id id_cmp id_total id ids sorted) in
    count_is its_id id_cmp id_total id ids c.partition_point.result c.partition_point.ensures.bound point
