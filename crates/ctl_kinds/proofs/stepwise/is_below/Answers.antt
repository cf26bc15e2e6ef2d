use Rattle.ctl_kinds.proofs.WideLemmas.{below}
use Rattle.std.proofs.Common.{rules}
use Rattle.ctl_kinds.proofs.stepwise.is_below.Goals as goal

pub returns : goal.returns
returns c = below c.args.base c.args.band.0 c.args.input.0 c.ranges.base (search rules) (search rules)
