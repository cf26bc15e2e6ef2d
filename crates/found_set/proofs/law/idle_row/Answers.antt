use Rattle.found_set.proofs.IdleLemmas.{idle_among}
use Rattle.found_set.proofs.law.idle_row.Goals as goal

pub returns : goal.returns
returns c = λ rules before after row idle. idle_among rules before after row idle
