use Rattle.std.proofs.Common.{List, ap, sym, ◌∙◌, subst}
use Rattle.cfg_json.specs.declared.item.Item.{Item}
use Rattle.fan_zone.specs.IsSets.{IsSet}
use Rattle.fan_zone.specs.Live.{items_of}
use Rattle.fan_zone.specs.Settings.{CanSet}
use Rattle.fan_zone.proofs.MachineLemmas.{can_set_again, stays_again}
use Rattle.fan_zone.proofs.tests.same_zones.Goals as goal

pub set-requires : goal.set-requires
set-requires g c =
    subst (λ (live : List Item). CanSet c.args.zones.now live)
    (sym (ap items_of c.deref-2.ensures.value ∙ c.in_ok-live.ensures ∙ c.deref.ensures.value ∙ c.in_ok-items.ensures))
    (can_set_again c.args.zones.now c.requires)

pub returns : goal.returns
returns g c =
    let sensors = c.args.sensors.now in
    stays_again c.args.zones.now c.set.new.self sensors c.requires
    (subst (λ (live : List Item). IsSet c.args.zones.now live sensors c.set.new.self)
    (ap items_of c.deref-2.ensures.value ∙ c.in_ok-live.ensures ∙ c.deref.ensures.value ∙ c.in_ok-items.ensures) c.set.ensures.means)
