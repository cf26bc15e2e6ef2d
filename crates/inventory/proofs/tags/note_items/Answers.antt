use Rattle.std.proofs.Common.{◌∙◌, ◌+◌, ◌++◌, ◌∷◌, [], List, take, sym, subst, ap}
use Rattle.std.proofs.lemmas.List.{take_all, take_more}
use Rattle.cfg_json.specs.declared.item.Item.{Item}
use Rattle.inventory.specs.Bearers.{is_bearer, noted_by}
use Rattle.inventory.specs.Stocks.{AreNoted}
use Rattle.inventory.proofs.NotesLemmas.{noted_more, noted_none}
use Rattle.inventory.proofs.tags.note_items.Goals as goal

pub loop-item-init : goal.loop-item-init
loop-item-init c test noted = noted_none c.args.comes c.args.notes.now c.args.tags.now.entries test noted

pub loop-item-preserved : goal.loop-item-preserved
loop-item-preserved c test noted =
    let items = c.args.items.now in
    let i = c.loop-item.item-index in
    let item = c.item-item.result in
    noted_more c.args.comes c.note_item.new.notes c.args.tags.now.entries test (take i items) (item ∷ []) (take (i + 1) items)
    (sym (take_more items i item c.loop-item-test.true ∙ ap (λ (last : Item). take i items ++ last ∷ []) (sym c.item-item.is)))
    (c.in_ok-note_item.ensures _ (c.loop-item.invariant test noted))

pub returns : goal.returns
returns c test noted =
    subst (λ (items : List Item). AreNoted c.loop-item.notes c.args.tags.now.entries
    (λ tag id. noted_by c.args.comes (test tag id) (is_bearer items tag id)))
    (take_all c.loop-item.item-index c.args.items.now c.loop-item-test.false) (c.loop-item.invariant test noted)
