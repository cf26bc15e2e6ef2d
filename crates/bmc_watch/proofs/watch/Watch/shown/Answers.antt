-- The stock has what the naming boards expose; what of it is live is all that is live.
use Rattle.std.proofs.Common.{◌∙◌, filter, ap, sym}
use Rattle.inventory.specs.Items.{is_live, live}
use Rattle.bmc_watch.specs.Insides.{view_of}
use Rattle.bmc_watch.specs.Watches.{WatchView, view_items, view_shown}
use Rattle.bmc_watch.proofs.StockLemmas.{live_shown}
use Rattle.bmc_watch.proofs.watch.Watch.shown.Goals as goal

pub returns-clause-items : goal.returns-clause-items
returns-clause-items g c = c.boards.ensures ∙ c.self.invariant.stock.items ∙ ap view_shown c.self.view_is

pub returns-clause-live : goal.returns-clause-live
returns-clause-live g c =
    ap (filter (is_live (view_items c.args.self.now))) c.boards.ensures
    ∙ ap (λ (view : WatchView). filter (is_live (view_items view)) c.self.inside.stock.items) (sym c.self.view_is)
    ∙ live_shown (view_of c.self.inside) c.self.inside.totals c.self.inside.stock.items c.self.invariant.stock
    ∙ ap (λ (view : WatchView). live (view_items view)) c.self.view_is
