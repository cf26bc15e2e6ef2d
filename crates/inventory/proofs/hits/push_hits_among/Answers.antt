use Rattle.inventory.proofs.OtherwiseLemmas.{among_more}
use Rattle.inventory.proofs.hits.push_hits_among.Goals as goal

pub loop-entry-preserved : goal.loop-entry-preserved
loop-entry-preserved c =
    λ reach marked. among_more reach c.args.number c.args.entries.now c.loop-entry.entry-index c.entry-item.result c.args.places.now.items
    c.loop-entry.places.items c.push_hit.new.places.items c.loop-entry-test.true c.entry-item.is
    (c.loop-entry.invariant reach marked) (c.in_ok-push_hit.ensures reach marked)
