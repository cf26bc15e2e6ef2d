use Rattle.std.proofs.Common.{◌*◌}
use Rattle.ctl_kinds.proofs.WideLemmas.{IsShare, share_is}
use Rattle.ctl_kinds.proofs.wide.Micro.share.Goals as goal

-- both clauses at once
share : (c : goal.After-divided) → IsShare c.args.self.0 c.args.number.0 (c.args.n * 1000000) c.divided.result
share c =
    share_is _ _ c.divided.result (c.args.n * 1000000) c.requires.coefficient c.requires.number (record { sfits = c.divided.type_inv }) c.divided.ensures

pub returns-clause-value : goal.returns-clause-value
returns-clause-value c = (share c).value

pub returns-clause-small : goal.returns-clause-small
returns-clause-small c = (share c).small
