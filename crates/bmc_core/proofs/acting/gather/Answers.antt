use Rattle.std.proofs.Common.{subst, sym}
use Rattle.inventory.specs.Items.{AreNamedLive}
use Rattle.inventory.specs.declared.shown.Shown.{Shown}
use Rattle.bmc_watch.specs.Watches.{view_items}
use Rattle.bmc_core.proofs.ActingLemmas.{named_boards}
use Rattle.bmc_core.proofs.acting.gather.Goals as goal

pub gather_items-count-requires-clause-own : goal.gather_items-count-requires-clause-own
gather_items-count-requires-clause-own g c known =
    let items = view_items c.args.watch.now in
    subst (AreNamedLive items) (sym c.deref.ensures.value)
    (subst (λ (board : Shown). AreNamedLive items board.items.items) (sym c.board-item.is)
    (named_boards items c.args.boards.now (c.requires.own known) c.loop-board.board-index c.board-item.result c.loop-board-test.true))
