-- The id is taken out, where it stands alone and among the others.
use Rattle.std.proofs.Common.{◌++◌, List, Option, sym, subst}
use Rattle.std.specs.Prelude.{option_to_list}
use Rattle.cfg_json.specs.declared.item.ItemId.{ItemId}
use Rattle.inventory.specs.Bearers.{but_id, Lists}
use Rattle.inventory.proofs.IdListsLemmas.{first_taken}
use Rattle.inventory.proofs.ids.Ids.remove.Goals as goal

pub returns : goal.returns
returns c test lists =
    let rest = c.self.inside.rest.items in
    let id = c.args.id.now in
    subst (λ (first : Option ItemId). Lists (option_to_list first ++ c.remove_id.new.ids.items) (but_id test id)) (sym c.other_than-self-inside.ensures)
    (first_taken rest c.remove_id.new.ids.items id c.remove_id.ensures c.self.inside.first test
    (subst (λ (ids : List ItemId). Lists ids test) (sym c.self.view_is) lists))
