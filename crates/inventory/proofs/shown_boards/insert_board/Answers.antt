use Rattle.std.proofs.Common.{◌∙◌, sym, subst, ap}
use Rattle.std.specs.List.{prefix_len}
use Rattle.std.specs.Ordering.{is_lt}
use Rattle.inventory.specs.Orders.{key_cmp}
use Rattle.inventory.specs.Shown.{AreOrdered}
use Rattle.inventory.specs.declared.shown.Shown.{Shown}
use Rattle.inventory.proofs.ShownLemmas.{board_inserted}
use Rattle.inventory.proofs.shown_boards.insert_board.Goals as goal

pub returns-clause-items : goal.returns-clause-items
returns-clause-items c order =
    c.in-Ok.ensures.items
    ∙ board_inserted c.args.board c.args.boards.now.items c.boards_before-at.result
    (c.boards_before-at.ensures.value (subst AreOrdered (sym c.deref.ensures.value) order)
    ∙ ap (prefix_len (λ (other : Shown). is_lt (key_cmp other.key c.args.board.key))) c.deref.ensures.value)
