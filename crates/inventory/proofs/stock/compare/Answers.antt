use Rattle.std.proofs.Common.{◌∙◌, ◌++◌, List, Option, ap, ap₂}
use Rattle.std.specs.Prelude.{filter_map}
use Rattle.std.specs.Option.{option_or}
use Rattle.cfg_json.specs.declared.item.Item.{Item}
use Rattle.cfg_json.specs.declared.item.ItemId.{ItemId}
use Rattle.inventory.specs.Follows.{item_of}
use Rattle.inventory.specs.Shown.{items_of}
use Rattle.inventory.proofs.IdListsLemmas.{lists_one}
use Rattle.inventory.proofs.LeadTagsLemmas.{told_alone}
use Rattle.inventory.proofs.stock.compare.Goals as goal

pub returns-clause-gone : goal.returns-clause-gone
returns-clause-gone c shown new_shown order ids lists =
    let pick : ItemId → Option Item = λ id. option_or (item_of (items_of c.args.boards.now) id) (item_of (items_of c.args.new.now) id) in
    let found = told_alone c.none-leads.result.gone.items c.find.new.self.gone.items _ c.none-leads.ensures.gone (c.in_ok-find.ensures order).gone in
    c.in_ok-append_copies.ensures shown new_shown
    ∙ ap₂ (λ (old more : List Item). old ++ more) c.none-difference.ensures.gone
    (ap (filter_map pick) (c.deref.ensures.value ∙ lists_one c.find.new.self.gone.items ids _ found lists))

pub returns-clause-new : goal.returns-clause-new
returns-clause-new c shown new_shown order ids lists =
    let pick : ItemId → Option Item = λ id. option_or (item_of (items_of c.args.new.now) id) (item_of (items_of c.args.boards.now) id) in
    let found = told_alone c.none-leads.result.new.items c.find.new.self.new.items _ c.none-leads.ensures.new (c.in_ok-find.ensures order).new in
    c.in_ok-append_copies-2.ensures new_shown shown
    ∙ ap₂ (λ (old more : List Item). old ++ more) c.none-difference.ensures.new
    (ap (filter_map pick) (c.deref-2.ensures.value ∙ lists_one c.find.new.self.new.items ids _ found lists))
