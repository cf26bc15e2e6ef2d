use Rattle.std.proofs.Common.{◌≡◌, ◌∙◌, Bool, true, false, cond, sym, None, ap, slice_get}
use Rattle.inventory.specs.Shown.{is_board}
use Rattle.inventory.specs.declared.shown.Shown.{Shown}
use Rattle.inventory.proofs.ShownLemmas.{board_at, items_in, there_at}
use Rattle.inventory.proofs.shown_boards.board_items.Goals as goal

pub returns-then-is_board_at : goal.returns-then-is_board_at
returns-then-is_board_at c shown =
    let boards = c.args.boards.now in
    let key = c.args.key.now in
    let n = c.boards_before-at.result in
    let there : is_board key (slice_get boards n) ≡ true = sym c.is_board_at.ensures ∙ c.if-is_board_at.true in
    c.deref.ensures.value ∙ ap (λ (board : Shown). board.items.items) (sym c.index-boards-at.is)
    ∙ there_at key boards n c.index-boards-at.result there c.index-boards-at.is
    ∙ sym (board_at key boards n shown (c.boards_before-at.ensures.value shown.order)
    ∙ ap (λ (b : Bool). items_in (cond b (slice_get boards n) None)) there)

pub returns-else-is_board_at : goal.returns-else-is_board_at
returns-else-is_board_at c shown =
    let boards = c.args.boards.now in
    let key = c.args.key.now in
    let n = c.boards_before-at.result in
    let free : is_board key (slice_get boards n) ≡ false = sym c.is_board_at.ensures ∙ c.if-is_board_at.false in
    sym (board_at key boards n shown (c.boards_before-at.ensures.value shown.order)
    ∙ ap (λ (b : Bool). items_in (cond b (slice_get boards n) None)) free)
