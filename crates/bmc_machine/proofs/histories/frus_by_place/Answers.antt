use Rattle.bmc_machine.proofs.StandingLemmas.{frus_ascend, frus_differ}
use Rattle.bmc_machine.proofs.histories.frus_by_place.Goals as goal

pub returns : goal.returns
returns c = record { one = frus_differ; order = frus_ascend }
