use Rattle.bmc_machine.proofs.LivesLemmas.{no_sensor_changes, changes_watched}
use Rattle.bmc_machine.proofs.sensors.sensors_wait.Goals as goal

pub returns : goal.returns
returns c = record { sensors = no_sensor_changes; changes = changes_watched }
