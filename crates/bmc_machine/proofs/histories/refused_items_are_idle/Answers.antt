use Rattle.bmc_machine.proofs.RefusalLemmas.{item_is_idle}
use Rattle.bmc_machine.proofs.histories.refused_items_are_idle.Goals as goal

pub returns : goal.returns
returns c = record {
  standing = λ line past verdict item refused. (item_is_idle line past verdict item refused).standing;
  kept = λ line past verdict item number refused. (item_is_idle line past verdict item refused).kept number;
}
