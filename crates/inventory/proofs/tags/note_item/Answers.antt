-- The item is noted under a tag, or changes nothing.
use Rattle.std.proofs.Common.{rules, ◌≡◌, ◌∙◌, ◌++◌, ◌∷◌, [], Option, None, Some, refl, sym, ap}
use Rattle.std.specs.Map.{lookup}
use Rattle.cfg_json.specs.declared.item.ItemId.{ItemId}
use Rattle.inventory.specs.Bearers.{ids_in}
use Rattle.inventory.proofs.NotesLemmas.{step_new, step_none, step_there}
use Rattle.inventory.proofs.TagsLemmas.{tag_test}
use Rattle.inventory.proofs.tags.note_item.Goals as goal

pub returns-in_default : goal.returns-in_default
returns-in_default c test noted =
    step_none c.args.comes c.args.notes.now c.args.tags.now.entries c.args.item.now test noted (sym c.tag_of.ensures ∙ c.in_default.is)

pub returns-in_ok-change_ids-in-Occupied : goal.returns-in_ok-change_ids-in-Occupied
returns-in_ok-change_ids-in-Occupied c test noted =
    let there : Some c.get_mut.result.now ≡ lookup (tag_test c.in-Some.tag) c.args.notes.now.over.entries = search rules in
    step_there c.args.comes c.args.notes.now c.args.tags.now.entries c.args.item.now test noted c.in-Some.tag c.get_mut.result.now c.change_ids.new.ids _
    (sym c.tag_of.ensures ∙ c.in-Some.is) c.in_ok-change_ids-in-Occupied.ensures (search rules) there refl

pub returns-in_ok-change_ids-in-Vacant : goal.returns-in_ok-change_ids-in-Vacant
returns-in_ok-change_ids-in-Vacant c test noted =
    let tags = c.args.tags.now.entries in
    let free : lookup (tag_test c.in-Some.tag) c.args.notes.now.over.entries ≡ None = search rules in
    let key : c.key.result.now ≡ c.in-Some.tag = search rules in
    step_new c.args.comes c.args.notes.now tags c.args.item.now test noted c.in-Some.tag c.in_ok-ids-in-Vacant.ids c.change_ids-in-Vacant.new.ids _
    (sym c.tag_of.ensures ∙ c.in-Some.is) c.in_ok-change_ids-in-Vacant.ensures (search rules) free
    (c.in_ok-ids-in-Vacant.ensures ∙ ap (ids_in tags) key)
    (c.in_ok-push-in-Vacant.ensures.items ∙ ap (λ (id : Option ItemId). c.args.notes.now.firsts.items ++ id ∷ []) c.first.ensures)
