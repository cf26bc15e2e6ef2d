use Rattle.bmc_machine.proofs.ReadingLemmas.{sensors_read, sensors_lost, changes_read, changes_lost}
use Rattle.bmc_machine.proofs.sensors.sensors_are_told.Goals as goal

pub returns : goal.returns
returns c = record {
  read = λ past name other raw valid. sensors_read past name raw valid other;
  lost = λ past name other. sensors_lost past name other;
  changes_read = changes_read;
  changes_lost = changes_lost;
}
