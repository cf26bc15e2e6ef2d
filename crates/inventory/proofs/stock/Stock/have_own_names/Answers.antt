-- Each item bears its name alone, so it holds it.
use Rattle.std.proofs.Common.{subst}
use Rattle.inventory.specs.Bearers.{ids_in}
use Rattle.inventory.specs.Follows.{Stock}
use Rattle.inventory.specs.Items.{AreNamedLive}
use Rattle.inventory.specs.Shown.{items_of}
use Rattle.inventory.proofs.OwnNamesLemmas.{named_live}
use Rattle.inventory.proofs.ShownLemmas.{shown_by_id}
use Rattle.inventory.proofs.stock.Stock.have_own_names.Goals as goal

pub returns : goal.returns
returns c known =
    let boards = c.self.inside.boards.items in
    subst (λ (stock : Stock). AreNamedLive stock.items stock.items) c.self.view_is
    (named_live (items_of boards) (shown_by_id boards c.self.invariant.shown) (ids_in c.self.inside.tags.entries) c.self.invariant.kept
    (c.self.invariant.names known))
