use Rattle.std.proofs.Common.{◌∙◌, ap}
use Rattle.fan_zone.specs.Steady.{has_bad_input_now}
use Rattle.fan_zone.specs.Ticks.{ZonesView}
use Rattle.fan_zone.proofs.SteadyLemmas.{good_alike}
use Rattle.fan_zone.proofs.zones.Zones.good_until.Goals as goal

pub returns : goal.returns
returns g c = good_alike _ _ c.args.now c.good_until.result
    (λ tick. ap (has_bad_input_now c.args.sensors.now.slots tick) (c.deref.ensures.value ∙ ap (λ (view : ZonesView). view.held) c.self.view_is))
    c.good_until.ensures
