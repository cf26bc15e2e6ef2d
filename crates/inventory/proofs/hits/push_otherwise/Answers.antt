use Rattle.inventory.specs.Moments.{entries_of}
use Rattle.inventory.proofs.OtherwiseLemmas.{otherwise_more}
use Rattle.inventory.proofs.hits.push_otherwise.Goals as goal

pub loop-entry-preserved : goal.loop-entry-preserved
loop-entry-preserved c =
    λ reach reach_after marked marked_after. otherwise_more reach reach_after c.args.changed c.args.entries.now c.loop-entry.entry-index c.entry-item.result
    c.deref.result.now (entries_of c.args.list.now.items) (entries_of c.loop-entry.list.items) (entries_of c.push_if_otherwise.new.list.items)
    c.loop-entry-test.true c.entry-item.is c.deref.ensures (c.loop-entry.invariant reach reach_after marked marked_after)
    (c.in_ok-push_if_otherwise.ensures reach reach_after marked marked_after)
