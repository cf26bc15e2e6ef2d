use Rattle.bmc_machine.proofs.LivesLemmas as lemmas
use Rattle.bmc_machine.proofs.StayLemmas.{legal_step}
use Rattle.bmc_machine.proofs.sensors.sensors_stay.Goals as goal

pub returns : goal.returns
returns c = record {
  stays = λ past step name item legal watched. lemmas.sensor_stays past step watched name item (legal_step past step legal);
  blank = lemmas.sensor_blank;
  none = lemmas.sensor_none;
}
