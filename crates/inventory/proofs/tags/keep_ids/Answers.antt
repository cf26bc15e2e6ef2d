use Rattle.std.proofs.Common.{◌∙◌, None, Some, refl, sym}
use Rattle.inventory.proofs.TagsLemmas.{ids_updated, no_ids, updated}
use Rattle.inventory.proofs.tags.keep_ids.Goals as goal

pub returns-then-is_empty-clause-ids : goal.returns-then-is_empty-clause-ids
returns-then-is_empty-clause-ids c =
    let none = no_ids c.args.ids (sym c.is_empty.ensures ∙ c.if-is_empty.true) in
    ids_updated c.args.tags.now.entries c.swap_remove.new.self.entries c.args.tag None c.args.ids none
    (updated c.args.tags.now.entries c.swap_remove.new.self.entries c.args.tag None c.swap_remove.ensures.updates.0)

pub returns-clause-ids : goal.returns-clause-ids
returns-clause-ids c =
    ids_updated c.args.tags.now.entries c.insert.new.self.entries c.args.tag (Some c.args.ids) c.args.ids refl
    (updated c.args.tags.now.entries c.insert.new.self.entries c.args.tag (Some c.args.ids) c.in-Ok.ensures.updates.0)
