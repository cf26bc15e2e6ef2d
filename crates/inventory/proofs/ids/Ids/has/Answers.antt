-- The id is the first, or stands where it comes among the rest.
use Rattle.std.proofs.Common.{◌≡◌, ◌∙◌, ◌||◌, Bool, List, sym, ap, subst, slice_get}
use Rattle.std.specs.List.{list_any, prefix_len}
use Rattle.std.specs.List.Sorted.{IsStrictlySortedBy}
use Rattle.std.specs.Ordering.{is_lt}
use Rattle.cfg_json.specs.declared.item.ItemId.{ItemId}
use Rattle.inventory.specs.Bearers.{is_id}
use Rattle.inventory.specs.Items.{id_eq}
use Rattle.inventory.specs.Orders.{id_cmp}
use Rattle.inventory.proofs.AmongLemmas.{any_first, has_at, rest_ascend}
use Rattle.inventory.proofs.ids.Ids.has.Goals as goal

pub returns-then-is_same : goal.returns-then-is_same
returns-then-is_same c order =
    let id = c.args.id.now in
    sym (ap (λ (ids : List ItemId). list_any (id_eq id) ids) (sym c.self.view_is) ∙ any_first c.self.inside.first c.self.inside.rest.items id
    ∙ ap (λ (b : Bool). b || list_any (id_eq id) c.self.inside.rest.items) (sym c.is_same.ensures ∙ c.if-is_same.true))

pub returns : goal.returns
returns c order =
    let id = c.args.id.now in
    let first = c.self.inside.first in
    let rest = c.self.inside.rest.items in
    let n = c.count_before.result in
    let ascend : IsStrictlySortedBy id_cmp rest = rest_ascend first rest (subst (IsStrictlySortedBy id_cmp) (sym c.self.view_is) order) in
    let count : n ≡ prefix_len (λ (each : ItemId). is_lt (id_cmp each id)) rest =
    c.count_before.ensures.value (subst (IsStrictlySortedBy id_cmp) (sym c.deref-2.ensures.value) ascend)
    ∙ ap (prefix_len (λ (each : ItemId). is_lt (id_cmp each id))) c.deref-2.ensures.value in
    c.is_at.ensures
    ∙ ap (λ (ids : List ItemId). is_id id (slice_get ids n)) c.deref.ensures.value ∙ has_at rest id n count ascend
    ∙ sym (ap (λ (ids : List ItemId). list_any (id_eq id) ids) (sym c.self.view_is) ∙ any_first first rest id
    ∙ ap (λ (b : Bool). b || list_any (id_eq id) rest) (sym c.is_same.ensures ∙ c.if-is_same.false))
