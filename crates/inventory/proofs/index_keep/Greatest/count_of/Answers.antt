use Rattle.std.proofs.Common.{sym}
use Rattle.inventory.proofs.KeepingLemmas.{count_none}
use Rattle.inventory.proofs.index_keep.Greatest.count_of.Goals as goal

pub returns-then-number-self : goal.returns-then-number-self
returns-then-number-self c = sym (count_none c.args.config c.args.self.now.end c.args.keys.now c.requires.below c.if-number-self.true)
