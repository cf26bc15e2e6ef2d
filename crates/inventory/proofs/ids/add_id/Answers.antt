-- The id is there, or is put where it comes.
use Rattle.std.proofs.Common.{◌≡◌, ◌∙◌, List, sym, ap, subst, slice_get}
use Rattle.std.specs.List.{prefix_len}
use Rattle.std.specs.List.Sorted.{IsStrictlySortedBy}
use Rattle.std.specs.Ordering.{is_lt}
use Rattle.cfg_json.specs.declared.item.ItemId.{ItemId}
use Rattle.inventory.specs.Bearers.{is_id, or_id, Lists}
use Rattle.inventory.specs.Orders.{id_cmp}
use Rattle.inventory.proofs.IdListsLemmas.{added, added_there}
use Rattle.inventory.proofs.ids.add_id.Goals as goal

pub returns-then-is_at : goal.returns-then-is_at
returns-then-is_at c test lists =
    added_there c.args.ids.now.items c.args.id c.count_before-at.result test
    (sym (c.is_at.ensures ∙ ap (λ ids. is_id c.args.id (slice_get ids c.count_before-at.result)) c.deref-2.ensures.value) ∙ c.if-is_at.true) lists

pub returns : goal.returns
returns c test lists =
    let ids = c.args.ids.now.items in
    let id = c.args.id in
    let n = c.count_before-at.result in
    let count : n ≡ prefix_len (λ (each : ItemId). is_lt (id_cmp each id)) ids =
    c.count_before-at.ensures.value (subst (λ (ids : List ItemId). IsStrictlySortedBy id_cmp ids) (sym c.deref.ensures.value) lists.order)
    ∙ ap (prefix_len (λ (each : ItemId). is_lt (id_cmp each id))) c.deref.ensures.value in
    subst (λ (list : List ItemId). Lists list (or_id test id)) (sym c.in-Ok.ensures.items)
    (added ids id n test count (sym (c.is_at.ensures ∙ ap (λ ids. is_id id (slice_get ids n)) c.deref-2.ensures.value) ∙ c.if-is_at.false) lists)
