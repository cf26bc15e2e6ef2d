use Rattle.std.proofs.Common.{◌∙◌, option_map, ap, slice_get}
use Rattle.inventory.specs.Bearers.{ids_in, name_tag}
use Rattle.inventory.specs.Follows.{Stock}
use Rattle.inventory.specs.Items.{holder}
use Rattle.inventory.specs.Shown.{items_of}
use Rattle.inventory.specs.declared.tag.Tag.{Tag}
use Rattle.inventory.proofs.BearersLemmas.{id_at}
use Rattle.inventory.proofs.LeadsLemmas.{first_is}
use Rattle.inventory.proofs.ShownLemmas.{shown_by_id}
use Rattle.inventory.proofs.stock.Stock.holder_id.Goals as goal

pub returns : goal.returns
returns c =
    let boards = c.self.inside.boards.items in
    let tag : Tag = name_tag c.args.family c.args.name.now in
    let tags = c.self.inside.tags.entries in
    c.first_of.ensures ∙ ap (λ (tag : Tag). slice_get (ids_in tags tag) 0) c.name_tag.ensures
    ∙ first_is (items_of boards) (shown_by_id boards c.self.invariant.shown) c.args.family c.args.name.now (ids_in tags tag) (c.self.invariant.kept tag)
    ∙ ap (λ (stock : Stock). option_map id_at (holder stock.items c.args.family c.args.name.now)) c.self.view_is
