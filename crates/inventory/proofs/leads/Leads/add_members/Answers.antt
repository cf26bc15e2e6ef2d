-- The controllers in the zone that are live before and not after, and the other way round.
use Rattle.std.proofs.Common.{◌≡◌, ◌∙◌, [], cond, List, sym, ap, subst}
use Rattle.std.specs.List.Sorted.{IsStrictlySortedBy}
use Rattle.cfg_json.specs.declared.item.ItemId.{ItemId}
use Rattle.inventory.specs.Bearers.{ids_in, ids_or_none, ids_over, member_tag}
use Rattle.inventory.specs.Orders.{id_cmp}
use Rattle.inventory.specs.declared.tag.Tag.{Tag}
use Rattle.inventory.proofs.ToldLemmas.{if_order, members_live, told_members}
use Rattle.inventory.proofs.leads.Leads.add_members.Goals as goal

pub returns : goal.returns
returns c order before_is after_is =
    let tags = c.args.tags.now.entries in
    let here : Tag → List ItemId = ids_in tags in
    let there : Tag → List ItemId = ids_over c.args.notes.now.over.entries tags in
    let zone = c.args.zone.now in
    let one : ids_or_none c.ids_if-here.result ≡ cond c.args.before (here (member_tag zone)) [] =
    c.ids_if-here.ensures ∙ ap (λ (ids : List ItemId). cond c.args.before ids []) (c.kept_for.ensures ∙ ap here c.member_tag-tag.ensures) in
    let two : ids_or_none c.ids_if-there.result ≡ cond c.args.after (there (member_tag zone)) [] =
    c.ids_if-there.ensures ∙ ap (λ (ids : List ItemId). cond c.args.after ids []) (c.noted_for.ensures ∙ ap there c.member_tag-tag.ensures) in
    told_members here there zone (ids_or_none c.ids_if-here.result) (ids_or_none c.ids_if-there.result) c.args.self.now _
    (one ∙ members_live here zone c.args.before before_is) (two ∙ members_live there zone c.args.after after_is)
    (c.in_ok-add_less.ensures
    (subst (IsStrictlySortedBy id_cmp) (sym two) (if_order c.args.after (there (member_tag zone)) (order.noted (member_tag zone)))))
    (c.in_ok-add_less-2.ensures
    (subst (IsStrictlySortedBy id_cmp) (sym one) (if_order c.args.before (here (member_tag zone)) (order.kept (member_tag zone)))))
