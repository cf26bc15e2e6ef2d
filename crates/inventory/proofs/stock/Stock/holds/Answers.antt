use Rattle.std.proofs.Common.{◌∙◌, ap}
use Rattle.inventory.specs.Bearers.{is_id}
use Rattle.inventory.specs.Items.{holder}
use Rattle.inventory.proofs.BearersLemmas.{is_id_item}
use Rattle.inventory.proofs.stock.Stock.holds.Goals as goal

pub returns : goal.returns
returns c =
    let item = c.args.item.now in
    c.is_same.ensures ∙ ap (is_id item.id) c.holder_id.ensures ∙ is_id_item item.id (holder c.args.self.now.items c.args.family item.name)
