use Rattle.std.proofs.Common.{◌≤◌, rules, arith}
use Rattle.bmc_base.specs.Counts.{last_count}
use Rattle.sensor_core.proofs.FreshLemmas.{past_fresh}
use Rattle.sensor_core.proofs.sensor.Sensor.is_bad.Goals as goal

pub returns-else-is_failed : goal.returns-else-is_failed
returns-else-is_failed c =
    let fresh = c.self.invariant.2 c.in-Some.reading c.in-Some.is in
    let fits : c.args.tick ≤ last_count = omega (arith, c.ranges.tick.fits) in
    search (rules, fresh, past_fresh c.self.inside.setting.timeout c.in-Some.reading.tick c.args.tick fits)
