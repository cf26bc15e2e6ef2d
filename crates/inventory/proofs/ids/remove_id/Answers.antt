-- The id is taken out, if it is there.
use Rattle.std.proofs.Common.{◌≡◌, ◌∙◌, List, Bool, true, false, cond, sym, ap, subst, slice_get}
use Rattle.std.specs.List.{remove, prefix_len}
use Rattle.std.specs.List.Sorted.{IsStrictlySortedBy}
use Rattle.std.specs.Ordering.{is_lt}
use Rattle.cfg_json.specs.declared.item.ItemId.{ItemId}
use Rattle.inventory.specs.Bearers.{but_id, is_id, Lists}
use Rattle.inventory.specs.Orders.{id_cmp}
use Rattle.inventory.proofs.IdListsLemmas.{taken}
use Rattle.inventory.proofs.ids.remove_id.Goals as goal

pub returns-then-is_at : goal.returns-then-is_at
returns-then-is_at c test lists =
    let ids = c.args.ids.now.items in
    let id = c.args.id.now in
    let n = c.count_before-at.result in
    let count : n ≡ prefix_len (λ (each : ItemId). is_lt (id_cmp each id)) ids =
    c.count_before-at.ensures.value (subst (λ (ids : List ItemId). IsStrictlySortedBy id_cmp ids) (sym c.deref.ensures.value) lists.order)
    ∙ ap (prefix_len (λ (each : ItemId). is_lt (id_cmp each id))) c.deref.ensures.value in
    let there : is_id id (slice_get ids n) ≡ true =
    sym (c.is_at.ensures ∙ ap (λ ids. is_id id (slice_get ids n)) c.deref-2.ensures.value) ∙ c.if-is_at.true in
    subst (λ (list : List ItemId). Lists list (but_id test id)) (ap (λ (b : Bool). cond b (remove ids n) ids) there ∙ sym c.remove.ensures.items)
    (taken ids id n test count lists)

pub returns-else-is_at : goal.returns-else-is_at
returns-else-is_at c test lists =
    let ids = c.args.ids.now.items in
    let id = c.args.id.now in
    let n = c.count_before-at.result in
    let count : n ≡ prefix_len (λ (each : ItemId). is_lt (id_cmp each id)) ids =
    c.count_before-at.ensures.value (subst (λ (ids : List ItemId). IsStrictlySortedBy id_cmp ids) (sym c.deref.ensures.value) lists.order)
    ∙ ap (prefix_len (λ (each : ItemId). is_lt (id_cmp each id))) c.deref.ensures.value in
    let free : is_id id (slice_get ids n) ≡ false =
    sym (c.is_at.ensures ∙ ap (λ ids. is_id id (slice_get ids n)) c.deref-2.ensures.value) ∙ c.if-is_at.false in
    subst (λ (list : List ItemId). Lists list (but_id test id)) (ap (λ (b : Bool). cond b (remove ids n) ids) free)
    (taken ids id n test count lists)
