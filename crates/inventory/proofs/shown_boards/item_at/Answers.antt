use Rattle.std.proofs.Common.{◌≡◌, ◌∙◌, cond, [], ◌∷◌, sym, subst, List, None, ap, slice_get}
use Rattle.std.specs.List.{prefix_len}
use Rattle.std.specs.Ordering.{is_lt}
use Rattle.cfg_json.specs.declared.item.Item.{Item}
use Rattle.inventory.specs.Follows.{on}
use Rattle.inventory.specs.Orders.{exposer, id_cmp, AreById}
use Rattle.inventory.specs.Shown.{is_item_at, items_of}
use Rattle.inventory.proofs.ShownLemmas.{by_id, item_found}
use Rattle.inventory.proofs.shown_boards.item_at.Goals as goal

pub returns : goal.returns
returns c shown =
    let boards = c.args.boards.now in
    let id = c.args.id.now in
    let n = c.items_before.result in
    let mine : c.board_items-items.result.now ≡ on (exposer id ∷ []) (items_of boards) = c.board_items-items.ensures shown in
    let count = c.items_before.ensures.value (subst AreById (sym mine) (by_id (exposer id) boards shown)) in
    c.item_if.ensures
    ∙ ap (λ (items : List Item). cond (is_item_at id (slice_get items n)) (slice_get items n) None) mine
    ∙ item_found id boards n shown (count ∙ ap (prefix_len (λ (item : Item). is_lt (id_cmp item.id id))) mine)
