use Rattle.bmc_gen.proofs.LawsLemmas.{occupied_where_plugged}
use Rattle.bmc_gen.proofs.law.occupied_where_plugged.Goals as goal

pub returns : goal.returns
returns c = occupied_where_plugged
