use Rattle.bmc_machine.proofs.SettledLemmas as lemmas
use Rattle.bmc_machine.proofs.sensors.sensors_settle.Goals as goal

pub returns : goal.returns
returns c = λ past step name legal watched. lemmas.sensor_settled past step legal watched name
