use Rattle.std.proofs.Common.{◌∙◌, List, ap, arith, length, subst, sym}
use Rattle.std.specs.List.{All}
use Rattle.cfg_json.specs.Configs.{IsValidConfig}
use Rattle.cfg_json.specs.declared.item.Item.{Item}
use Rattle.fan_zone.specs.IsSets.{IsSet}
use Rattle.fan_zone.specs.Settings.{CanSet}
use Rattle.inventory.specs.Items.{AreNamedLive}
use Rattle.inventory.specs.Shown.{items_of as all_items}
use Rattle.bmc_watch.specs.Watches.{view_items}
use Rattle.bmc_core.specs.Acting.{acting}
use Rattle.bmc_core.proofs.ActingLemmas.{acting_live}
use Rattle.bmc_core.proofs.acting.set_zones.Goals as goal

pub gather-count-requires-clause-own : goal.gather-count-requires-clause-own
gather-count-requires-clause-own g c known =
    subst (AreNamedLive (view_items c.args.watch.now)) (sym c.shown-boards.ensures.items) (c.have_own_names-own.ensures known)

pub gather-count-requires-clause-room : goal.gather-count-requires-clause-room
gather-count-requires-clause-room g c =
    let few = c.requires.few in
    let same = ap (λ (items : List Item). length items)
    (acting_live c.args.watch.now (all_items c.shown-boards.result.now) ∙ ap acting c.shown-boards.ensures.live) in
    omega (arith, few, same)

pub set-requires-in-Some : goal.set-requires-in-Some
set-requires-in-Some g c =
    subst (CanSet c.args.zones.now)
    (sym (c.gather-count.ensures.items ∙ acting_live c.args.watch.now (all_items c.shown-boards.result.now) ∙ ap acting c.shown-boards.ensures.live))
    (c.requires.fit (subst (All IsValidConfig) c.configs.ensures c.len-count.ensures.valid))

pub returns-in-Some : goal.returns-in-Some
returns-in-Some g c =
    subst (λ (items : List Item). IsSet c.args.zones.now items c.args.sensors.now c.set-in-Some.new.self)
    (c.gather-count.ensures.items ∙ acting_live c.args.watch.now (all_items c.shown-boards.result.now) ∙ ap acting c.shown-boards.ensures.live)
    c.set-in-Some.ensures.means
