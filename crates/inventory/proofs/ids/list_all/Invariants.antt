use Rattle.std.proofs.Common.{◌&&◌, not, take}
use Rattle.std.specs.List.{list_any}
use Rattle.std.specs.List.Sorted.{IsStrictlySortedBy}
use Rattle.inventory.specs.Bearers.{ids_or_none}
use Rattle.inventory.specs.Items.{id_eq}
use Rattle.inventory.specs.Leads.{ListsMore}
use Rattle.inventory.specs.Orders.{id_cmp}
use Rattle.inventory.proofs.ids.list_all.Given as goal

abbrev pub invariant-loop-id : goal.invariant-loop-id
invariant-loop-id l =
    IsStrictlySortedBy id_cmp (ids_or_none l.others)
    → ListsMore l.fn.list.items l.list.items (λ each. list_any (id_eq each) (take l.id-index l.ids) && not (list_any (id_eq each) (ids_or_none l.others)))
