use Rattle.std.proofs.Common.{◌+◌, ◌∙◌, drop}
use Rattle.std.proofs.lemmas.List.{drop_all}
use Rattle.std.proofs.lemmas.Result.{err_from_is_err_and}
use Rattle.bmc_core.specs.Lists.{board_rows}
use Rattle.bmc_run.proofs.GatheringLemmas.{left_at, rows_more, rows_all, rows_front, rows_stopped}
use Rattle.bmc_run.proofs.output.push_inventory.Goals as goal

pub returns-in_err-push_board-clause-front : goal.returns-in_err-push_board-clause-front
returns-in_err-push_board-clause-front g c =
    let p = err_from_is_err_and c.from_residual-in_err-push_board.result c.from_residual-in_err-push_board.ensures.1 in
    let boards = c.deref-board-items.result.now in
    let same = c.deref-board-items.ensures.value ∙ c.in_ok-boards.ensures.all in
    rw (p.1, ← same)
    (rows_front (board_rows c.args.core.now.state.senses.watch) _ _ _ _ boards (drop c.loop-board.board-index boards) c.loop-board.invariant.rows)

pub loop-board-preserved : goal.loop-board-preserved
loop-board-preserved g c =
    let boards = c.deref-board-items.result.now in
    record {
      rows = rows_more (board_rows c.args.core.now.state.senses.watch) _ _ _ _ _ _ _ boards (drop c.loop-board.board-index boards)
          (drop (c.loop-board.board-index + 1) boards) c.board-item.result c.loop-board.invariant.rows
          (left_at boards c.loop-board.board-index c.board-item.result c.loop-board-test.true c.board-item.is) c.in_ok-push_board.ensures
          c.in_ok-flush_large.ensures.all;
      sink = c.in_ok-flush_large.ensures.cause.none ∙ c.loop-board.invariant.sink;
    }

pub returns-in_err-flush_large-clause-front : goal.returns-in_err-flush_large-clause-front
returns-in_err-flush_large-clause-front g c =
    let p = err_from_is_err_and c.from_residual-in_err-flush_large.result c.from_residual-in_err-flush_large.ensures.1 in
    let boards = c.deref-board-items.result.now in
    let same = c.deref-board-items.ensures.value ∙ c.in_ok-boards.ensures.all in
    rw (p.1, ← same)
    (rows_stopped (board_rows c.args.core.now.state.senses.watch) _ _ _ _ _ _ boards (drop c.loop-board.board-index boards)
    (drop (c.loop-board.board-index + 1) boards) c.board-item.result c.loop-board.invariant.rows
    (left_at boards c.loop-board.board-index c.board-item.result c.loop-board-test.true c.board-item.is) c.in_ok-push_board.ensures
    c.in_err-flush_large.ensures.front)

pub returns-clause-all : goal.returns-clause-all
returns-clause-all g c =
    let boards = c.deref-board-items.result.now in
    let same = c.deref-board-items.ensures.value ∙ c.in_ok-boards.ensures.all in
    rw (← same)
    (rows_all (board_rows c.args.core.now.state.senses.watch) _ _ _ _ boards (drop c.loop-board.board-index boards) c.loop-board.invariant.rows
    (drop_all c.loop-board.board-index boards c.loop-board-test.false))
