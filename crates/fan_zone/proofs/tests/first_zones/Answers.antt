use Rattle.std.proofs.Common.{List, ap, sym, ◌∙◌, subst}
use Rattle.cfg_json.specs.declared.item.Item.{Item}
use Rattle.fan_zone.specs.Live.{items_of}
use Rattle.fan_zone.specs.IsSets.{IsSet}
use Rattle.fan_zone.specs.Machine.{machine}
use Rattle.fan_zone.specs.Settings.{CanSet}
use Rattle.fan_zone.specs.Ticks.{ZonesView}
use Rattle.fan_zone.proofs.MachineLemmas.{can_set_first, stays_set}
use Rattle.fan_zone.proofs.tests.first_zones.Goals as goal

pub set-requires : goal.set-requires
set-requires c =
    subst (λ (live : List Item). CanSet c.in_ok-zones.zones live)
    (sym (ap items_of c.deref-2.ensures.value ∙ c.in_ok-live.ensures ∙ c.deref.ensures.value ∙ c.in_ok-items.ensures))
    (subst (λ (view : ZonesView). CanSet view (machine 0)) (sym c.in_ok-zones.ensures) can_set_first)

pub returns : goal.returns
returns c =
    let sensors = c.args.sensors.now in
    let means : IsSet c.in_ok-zones.zones (machine 0) sensors c.set.new.self =
    subst (λ (live : List Item). IsSet c.in_ok-zones.zones live sensors c.set.new.self)
    (ap items_of c.deref-2.ensures.value ∙ c.in_ok-live.ensures ∙ c.deref.ensures.value ∙ c.in_ok-items.ensures) c.set.ensures.means in
    stays_set c.set.new.self sensors (subst (λ (view : ZonesView). IsSet view (machine 0) sensors c.set.new.self) c.in_ok-zones.ensures means)
