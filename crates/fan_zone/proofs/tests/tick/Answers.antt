use Rattle.fan_zone.proofs.MachineLemmas.{stays_tick}
use Rattle.fan_zone.proofs.tests.tick.Goals as goal

pub loop-n-preserved : goal.loop-n-preserved
loop-n-preserved g c =
    λ live stays. stays_tick live _ _ _ _ _ c.tick.ensures.ticked c.tick.ensures.steps (c.loop-n.invariant live stays)
