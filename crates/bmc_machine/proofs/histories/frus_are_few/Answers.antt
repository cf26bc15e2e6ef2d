use Rattle.bmc_machine.proofs.StandingLemmas.{frus_few}
use Rattle.bmc_machine.proofs.histories.frus_are_few.Goals as goal

pub returns : goal.returns
returns c = frus_few
