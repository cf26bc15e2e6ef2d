use Rattle.std.proofs.Common.{◌∙◌, List, sym, subst}
use Rattle.cfg_json.specs.declared.item.ItemId.{ItemId}
use Rattle.inventory.specs.Bearers.{is_id, Lists}
use Rattle.inventory.proofs.IdListsLemmas.{unless_same, unless_some}
use Rattle.inventory.proofs.leads.add_unless.Goals as goal

pub returns-then-is_same : goal.returns-then-is_same
returns-then-is_same c test lists =
    unless_same c.args.ids.now.items c.in-Some.id c.args.id (λ each. is_id each c.args.other) test c.in-Some.is
    (sym c.is_same.ensures ∙ c.if-is_same.true) lists

pub returns : goal.returns
returns c test lists =
    unless_some c.add_id.new.ids.items c.in-Some.id c.args.id (λ each. is_id each c.args.other) test c.in-Some.is
    (sym c.is_same.ensures ∙ c.if-is_same.false)
    (c.add_id.ensures test (subst (λ (ids : List ItemId). Lists ids test) (sym c.reserve.ensures.items) lists))
