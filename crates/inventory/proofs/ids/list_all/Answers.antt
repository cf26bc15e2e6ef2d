use Rattle.std.proofs.Common.{◌∙◌, ◌++◌, ◌∷◌, [], ◌&&◌, not, List, take, refl, sym, ap, subst}
use Rattle.std.specs.List.{list_any}
use Rattle.std.proofs.lemmas.List.{take_all, take_more}
use Rattle.cfg_json.specs.declared.item.ItemId.{ItemId}
use Rattle.inventory.specs.Bearers.{ids_or_none}
use Rattle.inventory.specs.Items.{id_eq}
use Rattle.inventory.specs.Leads.{ListsMore}
use Rattle.inventory.proofs.AmongLemmas.{more_ids, more_none}
use Rattle.inventory.proofs.ids.list_all.Goals as goal

pub loop-id-init : goal.loop-id-init
loop-id-init c order = more_none c.args.list.now.items _ (λ id. refl)

pub loop-id-preserved : goal.loop-id-preserved
loop-id-preserved c order =
    let ids = c.args.ids.now in
    let i = c.loop-id.id-index in
    let id = c.id-item.result in
    subst (λ (front : List ItemId). ListsMore c.args.list.now.items c.list_unless.new.list.items
    (λ each. list_any (id_eq each) front && not (list_any (id_eq each) (ids_or_none c.args.others))))
    (sym (take_more ids i id c.loop-id-test.true ∙ ap (λ (last : ItemId). take i ids ++ last ∷ []) (sym c.id-item.is)))
    (more_ids c.loop-id.list.items c.list_unless.new.list.items (take i ids) id (λ each. list_any (id_eq each) (ids_or_none c.args.others))
    c.args.list.now.items (c.loop-id.invariant order) (c.in_ok-list_unless.ensures order))

pub returns : goal.returns
returns c order =
    subst (λ (ids : List ItemId). ListsMore c.args.list.now.items c.loop-id.list.items
    (λ each. list_any (id_eq each) ids && not (list_any (id_eq each) (ids_or_none c.args.others))))
    (take_all c.loop-id.id-index c.args.ids.now c.loop-id-test.false) (c.loop-id.invariant order)
