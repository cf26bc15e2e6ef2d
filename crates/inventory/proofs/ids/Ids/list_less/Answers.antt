use Rattle.std.proofs.Common.{◌&&◌, not, Bool, List, subst}
use Rattle.std.specs.List.{list_any}
use Rattle.cfg_json.specs.declared.item.ItemId.{ItemId}
use Rattle.inventory.specs.Bearers.{ids_or_none}
use Rattle.inventory.specs.Items.{id_eq}
use Rattle.inventory.specs.Leads.{ListsMore}
use Rattle.inventory.proofs.AmongLemmas.{more_rest}
use Rattle.inventory.proofs.ids.Ids.list_less.Goals as goal

pub returns : goal.returns
returns c order =
    let has : ItemId → Bool = λ each. list_any (id_eq each) (ids_or_none c.args.others) in
    subst (λ (ids : List ItemId). ListsMore c.args.list.now.items c.list_all.new.list.items (λ each. list_any (id_eq each) ids && not (has each)))
    c.self.view_is
    (more_rest c.args.list.now.items c.list_unless.new.list.items c.list_all.new.list.items c.self.inside.first c.self.inside.rest.items has
    (c.in_ok-list_unless.ensures order)
    (subst (λ (ids : List ItemId). ListsMore c.list_unless.new.list.items c.list_all.new.list.items (λ each. list_any (id_eq each) ids && not (has each)))
    c.deref.ensures.value (c.in_ok-list_all.ensures order)))
