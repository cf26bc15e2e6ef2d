-- A row is staged, with room for it.
use Rattle.std.proofs.Common.{◌≡◌, ◌∙◌, ◌<◌, List, false, ap, sym, refl, subst, arith, vec_len, vec_capacity}
use Rattle.std.specs.List.{position_or_len}
use Rattle.found_set.specs.declared.facts.Facts.{Facts}
use Rattle.found_set.specs.declared.row.Row.{Row}
use Rattle.found_set.specs.Rows.{is_row_after, holds_place}
use Rattle.found_set.specs.Sets.{SetView}
use Rattle.found_set.specs.Events.{PlugEvent, facts_after}
use Rattle.found_set.specs.Staging.{staged_of}
use Rattle.found_set.proofs.InsidesLemmas.{bare_as, unstaged, only, sound_with, seen_with}
use Rattle.found_set.proofs.set.FoundSet.stage_plug.Goals as goal

pub invariant_of-self : goal.invariant_of-self
invariant_of-self g c =
    let none = unstaged c.self.inside.staged (ap (λ (v : SetView). v.staged) c.self.view_is ∙ c.requires.bare) in
    sound_with c.self.inside c.self.inside.names c.self.inside.rules c.reserve.new.self c.self.inside.staged c.self.invariant refl refl c.reserve.ensures.items
    (bare_as _ _ none) (bare_as _ _ none)

pub invariant_of-self-2 : goal.invariant_of-self-2
invariant_of-self-2 g c =
    let room : vec_len c.reserve.new.self < vec_capacity c.reserve.new.self = omega (arith, c.in_ok-reserve.ensures.ok) in
    let same : c.args.self.now.rows ≡ c.reserve.new.self.items =
    sym (◌∙◌ {A = List Row} c.reserve.ensures.items (ap (λ (v : SetView). v.rows) c.self.view_is)) in
    let free = subst (λ (rows : List Row). holds_place rows c.args.row.place ≡ false) same c.requires.new in
    let here = subst (λ (rows : List Row). c.args.at ≡ position_or_len (is_row_after c.args.row.place) rows) same c.requires.here in
    let next = c.requires.facts ∙ ap (λ (v : SetView). facts_after (PlugEvent c.args.row) v.rules v.rows) (sym c.self.view_is) in
    sound_with c.self.inside c.self.inside.names c.self.inside.rules c.reserve.new.self _ c.self.invariant refl refl c.reserve.ensures.items
    (only _ _ _ c.of.ensures next) (only _ _ _ c.of.ensures (room, free, here))

pub returns-clause-ok : goal.returns-clause-ok
returns-clause-ok g c =
    seen_with c.args.self.now c.self.inside.rules.items c.reserve.new.self.items c.self.inside.facts (staged_of c.of.result) _
    (ap (λ (v : SetView). v.rules) c.self.view_is) (◌∙◌ {A = List Row} c.reserve.ensures.items (ap (λ (v : SetView). v.rows) c.self.view_is))
    (ap (λ (v : SetView). v.facts) c.self.view_is)
    (ap staged_of c.of.ensures ∙ ap (λ (f : Facts). record { event = PlugEvent c.args.row; facts = f }) c.requires.facts)
