use Rattle.fan_zone.proofs.SteadyLemmas.{InputsGood}
use Rattle.fan_zone.proofs.reading.inputs_good_until.Given as goal

abbrev pub invariant-loop-input : goal.invariant-loop-input
invariant-loop-input l = InputsGood l.sensors.slots l.now l.inputs l.until l.input-index
