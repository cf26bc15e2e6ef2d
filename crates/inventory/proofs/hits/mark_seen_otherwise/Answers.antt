use Rattle.std.proofs.Common.{arith, length, ◌≤◌, subst}
use Rattle.std.proofs.lemmas.List.{take_all}
use Rattle.probe_lang.specs.Presents.{unboxed}
use Rattle.inventory.specs.Moments.{MarksSeenOtherwise}
use Rattle.inventory.proofs.MomentsLemmas.{otherwise_more, no_entries}
use Rattle.inventory.proofs.hits.mark_seen_otherwise.Goals as goal

pub loop-entry-init : goal.loop-entry-init
loop-entry-init c = no_entries c.args.marks.now c.args.facts.now c.args.facts_after.now

pub loop-entry-preserved : goal.loop-entry-preserved
loop-entry-preserved c =
    otherwise_more _ _ _ c.args.facts.now c.args.facts_after.now c.args.entries.now c.loop-entry.entry-index c.entry-item.result c.deref.result.now
    c.loop-entry-test.true c.entry-item.is c.deref.ensures c.loop-entry.invariant c.mark_if_seen_otherwise.ensures

pub returns : goal.returns
returns c =
    let all : length c.args.entries.now ≤ c.loop-entry.entry-index = omega (arith, c.loop-entry-test.false) in
    subst (λ boxes. MarksSeenOtherwise c.args.marks.now c.loop-entry.marks c.args.facts.now c.args.facts_after.now (unboxed boxes))
    (take_all c.loop-entry.entry-index c.args.entries.now all) c.loop-entry.invariant
