-- An item that is live among those of the naming boards is so among all.
use Rattle.std.proofs.Common.{◌∙◌, List, subst, sym}
use Rattle.std.specs.List.{slice_index_or}
use Rattle.cfg_json.specs.declared.item.Item.{Item}
use Rattle.inventory.specs.Items.{AreNamedLive}
use Rattle.bmc_watch.specs.Insides.{view_of}
use Rattle.bmc_watch.specs.Watches.{WatchView, view_items, view_shown}
use Rattle.bmc_watch.proofs.StockLemmas.{lives}
use Rattle.bmc_watch.proofs.watch.Watch.have_own_names.Goals as goal

pub returns : goal.returns
returns g c known =
    let view : WatchView = view_of c.self.inside in
    let stocked : List Item = c.self.inside.stock.items in
    subst (λ (view : WatchView). AreNamedLive (view_items view) (view_shown view)) c.self.view_is
    (subst (AreNamedLive (view_items view)) c.self.invariant.stock.items
    (λ k d below named.
    sym (lives view c.self.inside.totals stocked c.self.invariant.stock (slice_index_or stocked k d)) ∙ c.have_own_names.ensures known k d below named))
