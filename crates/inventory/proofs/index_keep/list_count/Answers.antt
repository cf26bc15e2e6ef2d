use Rattle.std.proofs.Common.{arith, ◌+◌, length, ◌≤◌, subst}
use Rattle.std.proofs.lemmas.List.{take_all}
use Rattle.inventory.specs.Keeping.{AreListed}
use Rattle.inventory.proofs.KeepingLemmas.{listed_more, max_first, max_second}
use Rattle.inventory.proofs.index_keep.list_count.Goals as goal

pub loop-key-preserved : goal.loop-key-preserved
loop-key-preserved c =
    listed_more c.args.keys.now c.loop-key.key-index c.loop-key.count c.max-count.result c.key-item.result c.loop-key-test.true c.loop-key.invariant
    (max_first c.loop-key.count (c.key-item.result.config + 1) c.max-count.result c.max-count.ensures) c.key-item.is (omega
    (arith, max_second c.loop-key.count (c.key-item.result.config + 1) c.max-count.result c.max-count.ensures))

pub returns : goal.returns
returns c =
    let all : length c.args.keys.now ≤ c.loop-key.key-index = omega (arith, c.loop-key-test.false) in
    subst (λ keys. AreListed keys c.loop-key.count) (take_all c.loop-key.key-index c.args.keys.now all) c.loop-key.invariant
