use Rattle.ctl_kinds.proofs.WideLemmas.{total_is}
use Rattle.std.proofs.Common.{rules}
use Rattle.ctl_kinds.proofs.wide.Wide.total.Goals as goal

pub returns : goal.returns
returns c = total_is c.args.p.0 c.args.i.0 c.args.d.0 c.args.f.0 c.requires.p (search rules) c.requires.d c.requires.f
