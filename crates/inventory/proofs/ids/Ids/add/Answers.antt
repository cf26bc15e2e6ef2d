-- The id stands alone, or is put among the others.
use Rattle.std.proofs.Common.{◌∙◌, ◌++◌, List, Option, not, arith, sym, ap, ap₂, subst}
use Rattle.std.specs.Prelude.{option_to_list}
use Rattle.std.proofs.lemmas.Grind.{common_steps}
use Rattle.cfg_json.specs.declared.item.ItemId.{ItemId}
use Rattle.inventory.specs.Bearers.{or_id, Lists}
use Rattle.inventory.proofs.IdListsLemmas.{alone, no_id}
use Rattle.inventory.proofs.ids.Ids.add.Goals as goal

pub returns-then-is_empty : goal.returns-then-is_empty
returns-then-is_empty c test lists =
    alone c.self.inside.first c.self.inside.rest.items c.args.id test
    (no_id c.self.inside.first (c.is_none.ensures ∙ ap not c.if-is_none.true)) (grind (arith, common_steps))
    (subst (λ (ids : List ItemId). Lists ids test) (sym c.self.view_is) lists)

pub returns : goal.returns
returns c test lists =
    subst (λ (first : Option ItemId). Lists (option_to_list first ++ c.add_id.new.ids.items) (or_id test c.args.id)) (sym c.take.ensures.after)
    (c.add_id.ensures test (subst (λ (ids : List ItemId). Lists ids test)
    (sym c.self.view_is
    ∙ sym (c.put_first.ensures.items ∙ ap₂ (λ (first : Option ItemId) (ids : List ItemId). option_to_list first ++ ids) c.take.ensures.value
    c.reserve.ensures.items)) lists))
