use Rattle.bmc_machine.proofs.TickedLemmas.{zones_tick, changes_ticked}
use Rattle.bmc_machine.proofs.zones.zones_tick.Goals as goal

pub returns : goal.returns
returns c = record { stand = zones_tick; changes = changes_ticked }
