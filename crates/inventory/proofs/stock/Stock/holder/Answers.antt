use Rattle.std.proofs.Common.{◌≡◌, Bor, ◌∙◌, List, Option, Some, option_map, sym, ap, subst}
use Rattle.cfg_json.specs.declared.item.Item.{Item}
use Rattle.inventory.specs.Follows.{item_of, Stock}
use Rattle.inventory.specs.Items.{holder}
use Rattle.inventory.specs.Shown.{items_of, AreShown}
use Rattle.inventory.specs.declared.shown.Shown.{Shown}
use Rattle.inventory.proofs.BearersLemmas.{id_at}
use Rattle.inventory.proofs.LeadsLemmas.{held_item, no_item}
use Rattle.inventory.proofs.ShownLemmas.{shown_by_id}
use Rattle.inventory.proofs.stock.Stock.holder.Goals as goal

pub returns : goal.returns
returns c =
    let boards = c.self.inside.boards.items in
    let items : items_of boards ≡ c.args.self.now.items = ap (λ (stock : Stock). stock.items) c.self.view_is in
    let held : option_map id_at (holder (items_of boards) c.args.family c.args.name.now) ≡ Some c.in_ok-id.id =
    ap (λ (items : List Item). option_map id_at (holder items c.args.family c.args.name.now)) items ∙ sym c.holder_id.ensures ∙ c.in_ok-id.was in
    c.item_at.ensures (subst AreShown (sym c.deref.ensures.value) c.self.invariant.shown)
    ∙ ap (λ (boards : List Shown). item_of (items_of boards) c.in_ok-id.id) c.deref.ensures.value
    ∙ held_item (items_of boards) (shown_by_id boards c.self.invariant.shown) c.args.family c.args.name.now c.in_ok-id.id held
    ∙ ap (λ (items : List Item). holder items c.args.family c.args.name.now) items

pub returns-in_err-id : goal.returns-in_err-id
returns-in_err-id c =
    ap (λ (found : Option (Bor Item)). option_map (λ item. item.now) found) c.from_residual.ensures
    ∙ sym (no_item (holder c.args.self.now.items c.args.family c.args.name.now) (sym c.holder_id.ensures ∙ c.in_err-id.was))
