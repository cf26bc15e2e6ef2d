use Rattle.std.proofs.Common.{◌≡◌, ◌<◌, List, All, length, subst, sym}
use Rattle.std.proofs.lemmas.Result.{IfOk-weaker}
use Rattle.inventory.specs.Indexes.{kept_of}
use Rattle.inventory.specs.declared.board.Board.{Board}
use Rattle.bmc_watch.specs.Watches.{view_boards, view_list}
use Rattle.bmc_core.proofs.BoardItemsLemmas.{boards_within}
use Rattle.bmc_core.proofs.board_list.list_boards.Goals as goal

pub returns-clause-within : goal.returns-clause-within
returns-clause-within g c =
    let watch = c.args.watch.now in
    IfOk-weaker c.boards.result (λ boards. boards.items ≡ view_list watch)
    (λ boards. All (λ (board : Board). board.key.config < length watch.configs) boards.items)
    (λ boards is. subst (λ (those : List Board). All (λ (board : Board). board.key.config < length watch.configs) those) (sym is)
    (boards_within (kept_of watch.kept) (view_boards watch) (length watch.configs)))
    c.boards.ensures
