use Rattle.fan_zone.proofs.ValuesLaw.{values_fit}
use Rattle.fan_zone.proofs.law.values_fit.Goals as goal

pub returns : goal.returns
returns c = values_fit
