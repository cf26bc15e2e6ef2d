use Rattle.bmc_machine.proofs.StayLemmas as lemmas
use Rattle.bmc_machine.proofs.items.items_stay.Goals as goal

pub returns : goal.returns
returns c = lemmas.items_stay
