use Rattle.std.proofs.Common.{Bor, ◌&&◌, not, List, Option, sym, subst}
use Rattle.std.specs.List.{list_any}
use Rattle.std.specs.Result.{OnOk}
use Rattle.cfg_json.specs.declared.item.ItemId.{ItemId}
use Rattle.inventory.specs.Bearers.{ids_or_none}
use Rattle.inventory.specs.Items.{id_eq}
use Rattle.inventory.specs.Leads.{ListsMore}
use Rattle.inventory.proofs.leads.add_less.Goals as goal

pub returns-in-Some : goal.returns-in-Some
returns-in-Some c order =
    subst (λ (found : Option (Bor (List ItemId))). OnOk c.list_less.result (ListsMore c.args.list.now.items c.list_less.new.list.items
    (λ each. list_any (id_eq each) (ids_or_none found) && not (list_any (id_eq each) (ids_or_none c.args.others)))))
    (sym c.in-Some.is) (c.list_less.ensures order)
