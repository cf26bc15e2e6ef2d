use Rattle.std.proofs.Common.{◌≡◌, ◌∙◌, Bool, true, false, cond, sym, subst, ap, slice_get}
use Rattle.std.specs.List.{prefix_len, remove}
use Rattle.std.specs.Ordering.{is_lt}
use Rattle.inventory.specs.Orders.{key_cmp}
use Rattle.inventory.specs.Shown.{is_board, AreOrdered}
use Rattle.inventory.specs.declared.shown.Shown.{Shown}
use Rattle.inventory.proofs.ShownLemmas.{board_removed}
use Rattle.inventory.proofs.shown_boards.remove_board.Goals as goal

pub returns-then-is_board_at-clause-items : goal.returns-then-is_board_at-clause-items
returns-then-is_board_at-clause-items c order =
    let boards = c.args.boards.now.items in
    let key = c.args.key.now in
    let n = c.boards_before-at.result in
    let there : is_board key (slice_get boards n) ≡ true =
    sym (c.is_board_at.ensures ∙ ap (λ boards. is_board key (slice_get boards n)) c.deref-2.ensures.value) ∙ c.if-is_board_at.true in
    c.remove.ensures.items ∙ sym (ap (λ (b : Bool). cond b (remove boards n) boards) there)
    ∙ board_removed key boards n order (c.boards_before-at.ensures.value (subst AreOrdered (sym c.deref.ensures.value) order)
    ∙ ap (prefix_len (λ (other : Shown). is_lt (key_cmp other.key key))) c.deref.ensures.value)

pub returns-else-is_board_at-clause-items : goal.returns-else-is_board_at-clause-items
returns-else-is_board_at-clause-items c order =
    let boards = c.args.boards.now.items in
    let key = c.args.key.now in
    let n = c.boards_before-at.result in
    let free : is_board key (slice_get boards n) ≡ false =
    sym (c.is_board_at.ensures ∙ ap (λ boards. is_board key (slice_get boards n)) c.deref-2.ensures.value) ∙ c.if-is_board_at.false in
    sym (ap (λ (b : Bool). cond b (remove boards n) boards) free)
    ∙ board_removed key boards n order (c.boards_before-at.ensures.value (subst AreOrdered (sym c.deref.ensures.value) order)
    ∙ ap (prefix_len (λ (other : Shown). is_lt (key_cmp other.key key))) c.deref.ensures.value)
