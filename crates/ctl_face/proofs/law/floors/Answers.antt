use Rattle.ctl_face.proofs.FloorsLemmas.{not_above, next_above}
use Rattle.ctl_face.proofs.law.floors.Goals as goal

pub returns : goal.returns
returns c = record { not_above = not_above; next_above = next_above }
