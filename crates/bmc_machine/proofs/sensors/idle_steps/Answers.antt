use Rattle.bmc_machine.proofs.IdleLemmas.{standing_idle, kept_same, boards_same, items_same, live_same, inventory_same, nothing_between}
use Rattle.bmc_machine.proofs.sensors.idle_steps.Goals as goal

pub returns : goal.returns
returns c = record {
  standing = standing_idle;
  kept = kept_same;
  boards = boards_same;
  items = items_same;
  live = live_same;
  inventory = inventory_same;
  nothing = nothing_between;
}
