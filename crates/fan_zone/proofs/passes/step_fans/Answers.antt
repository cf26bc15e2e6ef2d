use Rattle.fan_zone.proofs.SteadyLemmas.{good_inputs_at}
use Rattle.fan_zone.proofs.passes.step_fans.Goals as goal

pub fan_sample-sample-requires-clause-good : goal.fan_sample-sample-requires-clause-good
fan_sample-sample-requires-clause-good g c = λ good.
    good_inputs_at c.args.sensors.now.slots c.args.now c.args.held.now c.loop-one.one-index c.one-item.result (c.requires.good good)
    c.loop-one-test.true c.one-item.is
