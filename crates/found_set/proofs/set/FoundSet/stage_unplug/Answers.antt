-- That a row goes is staged.
use Rattle.std.proofs.Common.{◌∙◌, ap, sym, refl}
use Rattle.std.specs.Prelude.{position}
use Rattle.found_set.specs.declared.facts.Facts.{Facts}
use Rattle.found_set.specs.Rows.{is_row_at}
use Rattle.found_set.specs.Sets.{SetView}
use Rattle.found_set.specs.Events.{UnplugEvent, facts_after}
use Rattle.found_set.specs.Staging.{staged_of}
use Rattle.found_set.proofs.InsidesLemmas.{only, sound_with, seen_with}
use Rattle.found_set.proofs.set.FoundSet.stage_unplug.Goals as goal

pub invariant_of-self : goal.invariant_of-self
invariant_of-self g c =
    let here = ap (λ (v : SetView). position (is_row_at c.args.place) v.rows) c.self.view_is ∙ c.requires.here in
    let next = c.requires.facts ∙ ap (λ (v : SetView). facts_after (UnplugEvent c.args.place) v.rules v.rows) (sym c.self.view_is) in
    sound_with c.self.inside c.self.inside.names c.self.inside.rules c.self.inside.rows _ c.self.invariant refl refl refl (only _ _ _ c.of.ensures next)
    (only _ _ _ c.of.ensures (c.self.invariant.by_place, here))

pub returns : goal.returns
returns g c =
    seen_with c.args.self.now c.self.inside.rules.items c.self.inside.rows.items c.self.inside.facts (staged_of c.of.result) _
    (ap (λ (v : SetView). v.rules) c.self.view_is) (ap (λ (v : SetView). v.rows) c.self.view_is) (ap (λ (v : SetView). v.facts) c.self.view_is)
    (ap staged_of c.of.ensures ∙ ap (λ (f : Facts). record { event = UnplugEvent c.args.place; facts = f }) c.requires.facts)
