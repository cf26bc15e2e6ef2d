use Rattle.std.proofs.Common.{◌≡◌, ap, sym, subst}
use Rattle.found_set.specs.Marks.{AreMarked}
use Rattle.probe_lang.specs.Presents.{unboxed}
use Rattle.inventory.specs.Differences.{Moment}
use Rattle.inventory.specs.Moments.{entries_of, otherwise_of}
use Rattle.inventory.proofs.OtherwiseLemmas.{otherwise_parts}
use Rattle.inventory.proofs.moment.Moment.list_otherwise.Goals as goal

pub returns : goal.returns
returns c =
    λ reach reach_other marked marked_other.
    let here : AreMarked c.self.inside.facts.reach reach = subst (λ (moment : Moment). AreMarked moment.facts.reach reach) (sym c.self.view_is) marked in
    let there : AreMarked c.other.inside.facts.reach reach_other = subst (λ (moment : Moment). AreMarked moment.facts.reach reach_other) (sym c.other.view_is)
    marked_other in
    let list = entries_of c.push_otherwise-3.new.list.items in
    subst (λ (moment : Moment). list ≡ otherwise_of reach reach_other c.args.changed moment.entries) c.self.view_is
    (otherwise_parts reach reach_other c.args.changed (unboxed c.self.inside.before.now) (unboxed c.self.inside.plus.now) (unboxed c.self.inside.behind.now)
    (entries_of c.new-list.result.items) (entries_of c.push_otherwise.new.list.items) (entries_of c.push_otherwise-2.new.list.items) list
    (ap entries_of c.new-list.ensures.items)
    (c.in_ok-push_otherwise.ensures reach reach_other here there) (c.in_ok-push_otherwise-2.ensures reach reach_other here there)
    (c.in_ok-push_otherwise-3.ensures reach reach_other here there))
