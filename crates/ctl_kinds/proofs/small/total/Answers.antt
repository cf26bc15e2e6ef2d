use Rattle.ctl_kinds.proofs.SmallLemmas.{small_total_is}
use Rattle.ctl_kinds.proofs.small.total.Goals as goal

pub returns : goal.returns
returns c = small_total_is c.args.p.0 c.args.i.0 c.args.d.0 c.args.f.0 c.requires.p c.requires.i c.requires.d c.requires.f
