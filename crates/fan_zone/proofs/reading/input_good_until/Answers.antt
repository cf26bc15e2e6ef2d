use Rattle.std.proofs.Common.{◌≡◌, ◌∙◌, Some, ap, option_copied, sym}
use Rattle.fan_zone.specs.Inputs.{is_bad_sensor, sensor_of}
use Rattle.fan_zone.proofs.SteadyLemmas.{good_alike}
use Rattle.fan_zone.proofs.reading.input_good_until.Goals as goal

pub returns-in-Some : goal.returns-in-Some
returns-in-Some c =
    let is : sensor_of c.args.sensors.now.slots c.args.input ≡ Some c.in-Some.sensor.now = sym c.sensor_of.ensures ∙ ap option_copied c.in-Some.is in
    good_alike _ _ c.args.now c.good_until.result (λ tick. ap (is_bad_sensor tick) (sym is)) c.good_until.ensures
