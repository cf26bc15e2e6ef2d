use Rattle.std.proofs.Common.{◌∙◌, ◌++◌, ◌∷◌, [], List, Option, take, sym, ap, ap₂}
use Rattle.std.specs.Prelude.{filter_map, option_to_list}
use Rattle.std.specs.Option.{option_or}
use Rattle.std.proofs.lemmas.List.{append_assoc, take_more}
use Rattle.cfg_json.specs.declared.item.Item.{Item}
use Rattle.cfg_json.specs.declared.item.ItemId.{ItemId}
use Rattle.inventory.specs.Follows.{item_of}
use Rattle.inventory.specs.Shown.{items_of}
use Rattle.inventory.proofs.LeadTagsLemmas.{picked_more}
use Rattle.inventory.proofs.leads.append_copies.Goals as goal

pub loop-id-preserved : goal.loop-id-preserved
loop-id-preserved c shown others_shown =
    let ids = c.args.ids.now in
    let i = c.loop-id.id-index in
    let id = c.id-item.result in
    let pick : ItemId → Option Item = λ id. option_or (item_of (items_of c.args.boards.now) id) (item_of (items_of c.args.others.now) id) in
    let list = c.args.list.now in
    c.in_ok-copy_item.ensures
    ∙ ap₂ (λ (list : List Item) (item : Option Item). list ++ option_to_list item) (c.loop-id.invariant shown others_shown)
    (c.item_in.ensures shown others_shown)
    ∙ append_assoc list (filter_map pick (take i ids)) (option_to_list (pick id))
    ∙ ap (λ (more : List Item). list ++ more)
    (sym (ap (filter_map pick) (take_more ids i id c.loop-id-test.true ∙ ap (λ (last : ItemId). take i ids ++ last ∷ []) (sym c.id-item.is))
    ∙ picked_more pick (take i ids) id))
