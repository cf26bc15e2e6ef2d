-- Controllers that are read are valid.
use Rattle.cfg_json.proofs.ControlsLemmas.{pid_control_valid, stepwise_control_valid}
use Rattle.cfg_json.proofs.law.controls_are_valid.Goals as goal

pub returns : goal.returns
returns c = record { pid = pid_control_valid; stepwise = stepwise_control_valid }
