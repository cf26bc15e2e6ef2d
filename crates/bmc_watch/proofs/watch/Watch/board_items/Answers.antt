-- FRUs that are idle have no boards.
use Rattle.std.proofs.Common.{◌∙◌, List, ap}
use Rattle.probe_lang.specs.declared.rows.Entry.{Entry}
use Rattle.fru_rows.specs.Idle.{busy}
use Rattle.inventory.specs.Items.{entry_fields, board_items}
use Rattle.bmc_watch.specs.Watches.{WatchView}
use Rattle.bmc_watch.proofs.EventsLemmas.{if_ok_more}
use Rattle.bmc_watch.proofs.ListedLemmas.{one_board}
use Rattle.bmc_watch.proofs.watch.Watch.board_items.Goals as goal

pub returns : goal.returns
returns g c =
    if_ok_more _ _ c.list_board.result
    (λ list is. is ∙ one_board c.self.inside.shelf (entry_fields c.of-moment.result.entries) c.args.board.now
    ∙ ap (λ (entries : List Entry). board_items c.self.inside.shelf (entry_fields entries) c.args.board.now)
    (c.of-moment.ensures.entries ∙ c.busy.ensures.value)
    ∙ ap (λ (view : WatchView). board_items view.configs (entry_fields (busy view.entries)) c.args.board.now) c.self.view_is)
    c.list_board.ensures
