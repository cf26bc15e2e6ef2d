use Rattle.ctl_face.proofs.LimitsLemmas.{output_within}
use Rattle.ctl_face.proofs.law.outputs_within_limits.Goals as goal

pub returns : goal.returns
returns c = output_within
