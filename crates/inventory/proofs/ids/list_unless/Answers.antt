use Rattle.std.proofs.Common.{◌∙◌, List, sym, subst}
use Rattle.std.specs.List.{list_any}
use Rattle.cfg_json.specs.declared.item.ItemId.{ItemId}
use Rattle.inventory.specs.Bearers.{ids_or_none, Lists}
use Rattle.inventory.specs.Items.{id_eq}
use Rattle.inventory.proofs.IdListsLemmas.{unless_same, unless_some}
use Rattle.inventory.proofs.ids.list_unless.Goals as goal

pub returns-then-has_id : goal.returns-then-has_id
returns-then-has_id c order test lists =
    unless_same c.args.list.now.items c.in-Some.id c.args.id (λ each. list_any (id_eq each) (ids_or_none c.args.others)) test c.in-Some.is
    (sym (c.has_id.ensures order) ∙ c.if-has_id.true) lists

pub returns : goal.returns
returns c order test lists =
    unless_some c.add_id.new.ids.items c.in-Some.id c.args.id (λ each. list_any (id_eq each) (ids_or_none c.args.others)) test c.in-Some.is
    (sym (c.has_id.ensures order) ∙ c.if-has_id.false)
    (c.add_id.ensures test (subst (λ (ids : List ItemId). Lists ids test) (sym c.reserve.ensures.items) lists))
