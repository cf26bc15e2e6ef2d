use Rattle.fan_zone.proofs.SteadyLemmas.{HeldGood}
use Rattle.fan_zone.proofs.reading.good_until.Given as goal

abbrev pub invariant-loop-one : goal.invariant-loop-one
invariant-loop-one l = HeldGood l.sensors.slots l.now l.held l.until l.one-index
