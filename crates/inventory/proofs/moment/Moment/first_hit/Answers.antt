use Rattle.std.proofs.Common.{◌∙◌, ◌++◌, map, slice_get, sym, ap, subst}
use Rattle.found_set.specs.Marks.{AreMarked}
use Rattle.probe_lang.specs.Sights.{entry_sight}
use Rattle.inventory.specs.Boards.{hit_places}
use Rattle.inventory.specs.Differences.{Moment}
use Rattle.probe_lang.specs.Presents.{unboxed}
use Rattle.inventory.proofs.LoneLemmas.{first_in, first_past}
use Rattle.inventory.proofs.moment.Moment.first_hit.Goals as goal

pub returns-then-is_some : goal.returns-then-is_some
returns-then-is_some c =
    let number = c.args.number in
    let before = unboxed c.self.inside.before.now in
    let plus = unboxed c.self.inside.plus.now in
    let there = sym c.is_some.ensures ∙ c.if-is_some.true in
    λ reach marked.
    let here : AreMarked c.self.inside.facts.reach reach = subst (λ (moment : Moment). AreMarked moment.facts.reach reach) (sym c.self.view_is) marked in
    first_in reach number (before ++ plus) (unboxed c.self.inside.behind.now) c.first_hit-before.result
    (first_in reach number before plus c.first_hit-before.result (c.first_hit-before.ensures reach here) there) there
    ∙ ap (λ (moment : Moment). slice_get (hit_places reach (map entry_sight moment.entries) number) 0) c.self.view_is

pub returns-then-is_some-2 : goal.returns-then-is_some-2
returns-then-is_some-2 c =
    let number = c.args.number in
    let before = unboxed c.self.inside.before.now in
    let plus = unboxed c.self.inside.plus.now in
    λ reach marked.
    let here : AreMarked c.self.inside.facts.reach reach = subst (λ (moment : Moment). AreMarked moment.facts.reach reach) (sym c.self.view_is) marked in
    first_in reach number (before ++ plus) (unboxed c.self.inside.behind.now) c.first_hit-plus.result
    (first_past reach number before plus c.first_hit-before.result c.first_hit-plus.result (c.first_hit-before.ensures reach here)
    (sym c.is_some.ensures ∙ c.if-is_some.false) (c.first_hit-plus.ensures reach here)) (sym c.is_some-2.ensures ∙ c.if-is_some-2.true)
    ∙ ap (λ (moment : Moment). slice_get (hit_places reach (map entry_sight moment.entries) number) 0) c.self.view_is

pub returns : goal.returns
returns c =
    let number = c.args.number in
    let before = unboxed c.self.inside.before.now in
    let plus = unboxed c.self.inside.plus.now in
    λ reach marked.
    let here : AreMarked c.self.inside.facts.reach reach = subst (λ (moment : Moment). AreMarked moment.facts.reach reach) (sym c.self.view_is) marked in
    first_past reach number (before ++ plus) (unboxed c.self.inside.behind.now) c.first_hit-plus.result c.first_hit.result
    (first_past reach number before plus c.first_hit-before.result c.first_hit-plus.result (c.first_hit-before.ensures reach here)
    (sym c.is_some.ensures ∙ c.if-is_some.false) (c.first_hit-plus.ensures reach here)) (sym c.is_some-2.ensures ∙ c.if-is_some-2.false)
    (c.first_hit.ensures reach here)
    ∙ ap (λ (moment : Moment). slice_get (hit_places reach (map entry_sight moment.entries) number) 0) c.self.view_is
