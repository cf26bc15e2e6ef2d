use Rattle.sensor_core.proofs.LawsLemmas.{alarms_are_raised}
use Rattle.sensor_core.proofs.law.alarms_are_raised.Goals as goal

pub returns : goal.returns
returns c = alarms_are_raised
