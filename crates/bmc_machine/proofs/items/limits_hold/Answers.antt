use Rattle.bmc_machine.proofs.LimitLemmas as lemmas
use Rattle.bmc_machine.proofs.items.limits_hold.Goals as goal

pub returns : goal.returns
returns c = lemmas.limits_hold
