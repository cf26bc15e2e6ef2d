use Rattle.sensor_core.proofs.LawsLemmas.{values_are_floors}
use Rattle.sensor_core.proofs.law.values_are_floors.Goals as goal

pub returns : goal.returns
returns c = values_are_floors
