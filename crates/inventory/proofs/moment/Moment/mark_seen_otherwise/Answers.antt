use Rattle.std.proofs.Common.{◌++◌, subst}
use Rattle.probe_lang.specs.Presents.{unboxed}
use Rattle.inventory.specs.Differences.{Moment}
use Rattle.inventory.specs.Moments.{MarksSeenOtherwise}
use Rattle.inventory.proofs.MomentsLemmas.{otherwise_both}
use Rattle.inventory.proofs.moment.Moment.mark_seen_otherwise.Goals as goal

pub returns : goal.returns
returns c =
    let old = c.args.marks.now in
    let new = c.mark_seen_otherwise-3.new.marks in
    let here = c.self.inside in
    let there = c.after.inside.facts in
    subst (λ (moment : Moment). MarksSeenOtherwise old new moment.facts c.args.after.now.facts moment.entries) c.self.view_is
    (subst (λ (moment : Moment). MarksSeenOtherwise old new here.facts moment.facts
    (unboxed here.before.now ++ unboxed here.plus.now ++ unboxed here.behind.now))
    c.after.view_is
    (otherwise_both old c.mark_seen_otherwise-2.new.marks new here.facts there
    (unboxed here.before.now ++ unboxed here.plus.now) (unboxed here.behind.now)
    (otherwise_both old c.mark_seen_otherwise.new.marks c.mark_seen_otherwise-2.new.marks here.facts there
    (unboxed here.before.now) (unboxed here.plus.now)
    c.mark_seen_otherwise.ensures c.mark_seen_otherwise-2.ensures) c.mark_seen_otherwise-3.ensures))
