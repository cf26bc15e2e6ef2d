use Rattle.std.proofs.Common.{arith, length, ◌≤◌, subst}
use Rattle.std.proofs.lemmas.List.{take_all}
use Rattle.probe_lang.specs.Presents.{unboxed}
use Rattle.inventory.specs.Moments.{AreSeenAlike}
use Rattle.inventory.proofs.MomentsLemmas.{alike_marks, alike_more}
use Rattle.inventory.proofs.hits.tell_alike.Goals as goal

pub loop-entry-preserved : goal.loop-entry-preserved
loop-entry-preserved c =
    λ reach reach_after marked marked_after. alike_more reach reach_after c.args.entries.now c.loop-entry.entry-index
    c.entry-item.result c.deref.result.now c.loop-entry-test.true
    c.entry-item.is c.deref.ensures (c.loop-entry.invariant reach reach_after marked marked_after)
    (alike_marks reach reach_after c.args.facts.now.reach c.args.facts_after.now.reach c.bus-bus.result c.deref.result.now.place.bus marked marked_after
    c.bus-bus.type_inv c.bus-bus.ensures c.requires)

pub returns : goal.returns
returns c =
    let all : length c.args.entries.now ≤ c.loop-entry.entry-index = omega (arith, c.loop-entry-test.false) in
    λ reach reach_after marked marked_after. subst (λ boxes. AreSeenAlike reach reach_after (unboxed boxes))
    (take_all c.loop-entry.entry-index c.args.entries.now all)
    (c.loop-entry.invariant reach reach_after marked marked_after)
