use Rattle.std.proofs.Common.{sym, subst}
use Rattle.found_set.specs.Marks.{AreMarked}
use Rattle.inventory.specs.Differences.{Moment}
use Rattle.probe_lang.specs.Presents.{unboxed}
use Rattle.inventory.specs.Moments.{AreSeenAlike}
use Rattle.inventory.proofs.MomentsLemmas.{alike_parts}
use Rattle.inventory.proofs.moment.Moment.is_seen_alike.Goals as goal

pub returns : goal.returns
returns c =
    λ reach reach_after marked marked_after yes.
    let here : AreMarked c.self.inside.facts.reach reach = subst (λ (moment : Moment). AreMarked moment.facts.reach reach) (sym c.self.view_is) marked in
    let there : AreMarked c.after.inside.facts.reach reach_after = subst (λ (moment : Moment). AreMarked moment.facts.reach reach_after) (sym c.after.view_is)
    marked_after in
    subst (λ (moment : Moment). AreSeenAlike reach reach_after moment.entries) c.self.view_is
    (alike_parts reach reach_after (unboxed c.self.inside.before.now) (unboxed c.self.inside.plus.now)
    (unboxed c.self.inside.behind.now)
    (c.are_seen_alike-before.ensures reach reach_after here there c.if-not-before.false)
    (c.are_seen_alike-plus.ensures reach reach_after here there c.if-not-plus.false) (c.are_seen_alike.ensures reach reach_after here there yes))
