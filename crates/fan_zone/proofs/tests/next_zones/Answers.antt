use Rattle.std.proofs.Common.{List, ap, sym, ◌∙◌, subst}
use Rattle.cfg_json.specs.declared.item.Item.{Item}
use Rattle.fan_zone.specs.Live.{items_of}
use Rattle.fan_zone.specs.Settings.{CanSet}
use Rattle.fan_zone.proofs.MachineLemmas.{can_set_next}
use Rattle.fan_zone.proofs.tests.next_zones.Goals as goal

pub set-requires : goal.set-requires
set-requires g c =
    subst (λ (live : List Item). CanSet c.args.zones.now live)
    (sym (ap items_of c.deref-2.ensures.value ∙ c.in_ok-live.ensures ∙ c.deref.ensures.value ∙ c.in_ok-items.ensures))
    (can_set_next c.args.zones.now c.requires)
