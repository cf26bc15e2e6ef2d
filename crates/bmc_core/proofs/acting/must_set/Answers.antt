use Rattle.std.proofs.Common.{◌≡◌, ◌∙◌, List, false, ap, inl, subst, sym}
use Rattle.std.specs.List.{list_any}
use Rattle.cfg_json.specs.declared.item.Item.{Item}
use Rattle.inventory.specs.Items.{is_live}
use Rattle.inventory.specs.Shown.{items_of as all_items}
use Rattle.bmc_machine.specs.Changes.{concerns_zones}
use Rattle.bmc_watch.specs.Watches.{view_items}
use Rattle.bmc_core.proofs.ActingLemmas.{fewer_concern}
use Rattle.bmc_core.proofs.acting.must_set.Goals as goal

pub returns-else-is_empty : goal.returns-else-is_empty
returns-else-is_empty g c is =
    let all = all_items c.shown.result.now in
    let changes = c.args.watch.now.changes in
    let none : list_any (concerns_zones all) changes ≡ false =
    ap (list_any (concerns_zones all)) (sym c.changes-else-is_empty.ensures) ∙ c.some_concern_zones.ensures is in
    inl (subst (λ (items : List Item). list_any (concerns_zones items) changes ≡ false) c.shown.ensures.live
    (fewer_concern (is_live (view_items c.args.watch.now)) all changes none))
