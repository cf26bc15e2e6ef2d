-- An item that is not of a naming board holds no name.
use Rattle.std.proofs.Common.{◌∙◌, ap}
use Rattle.inventory.specs.Items.{is_live}
use Rattle.bmc_watch.specs.Insides.{view_of}
use Rattle.bmc_watch.specs.Watches.{WatchView, view_items}
use Rattle.bmc_watch.proofs.StockLemmas.{lives}
use Rattle.bmc_watch.proofs.watch.Watch.is_live.Goals as goal

pub returns : goal.returns
returns g c =
    c.is_live.ensures ∙ lives (view_of c.self.inside) c.self.inside.totals c.self.inside.stock.items c.self.invariant.stock c.args.item.now
    ∙ ap (λ (view : WatchView). is_live (view_items view) c.args.item.now) c.self.view_is
