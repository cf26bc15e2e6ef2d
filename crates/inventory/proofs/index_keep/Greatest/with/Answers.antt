use Rattle.std.proofs.Common.{◌+◌, refl}
use Rattle.inventory.proofs.KeepingLemmas.{greatest_next}
use Rattle.inventory.proofs.index_keep.Greatest.with.Goals as goal

pub returns-else-end-self : goal.returns-else-end-self
returns-else-end-self c =
    λ keys key greatest is counted. greatest_next keys key c.args.self.now.end c.args.count c.args.config c.args.self.now.count (c.args.config + 1) greatest is
    counted refl c.if-end-self.false
