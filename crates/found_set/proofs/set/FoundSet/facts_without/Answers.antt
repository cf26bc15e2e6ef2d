-- What changes without a row.
use Rattle.std.proofs.Common.{◌≡◌, ◌∙◌, ◌+◌, ◌-◌, ◌*◌, ◌≤◌, ◌++◌, List, length, take, drop, Some, refl, ap, ap₂, sym, subst, cond}
use Rattle.std.specs.Prelude.{position}
use Rattle.std.proofs.lemmas.List.Quantifiers.{position-Some}
use Rattle.bmc_base.specs.Steps.{IsWithin}
use Rattle.found_set.specs.declared.row.Row.{Row}
use Rattle.found_set.specs.Found.{Rule, facts, names_of}
use Rattle.found_set.specs.Rows.{sights_of, is_row_at, is_idle, without_row}
use Rattle.found_set.specs.Sets.{SetView}
use Rattle.found_set.proofs.NamedLemmas.{all_named}
use Rattle.found_set.proofs.RowsLemmas.{without_sliced, sliced_around}
use Rattle.found_set.proofs.IdleLemmas.{are_with, are_without}
use Rattle.found_set.proofs.EventsLemmas.{unplug_evals}
use Rattle.found_set.proofs.set.FoundSet.facts_without.Goals as goal

pub reevaluate-requires : goal.reevaluate-requires
reevaluate-requires g c =
    let rows = c.self.inside.rows.items in
    let at = c.args.at in
    let row = c.index-row.result.now in
    let found : position (is_row_at c.args.place) rows ≡ Some at =
    ap (λ (v : SetView). position (is_row_at c.args.place) v.rows) c.self.view_is ∙ c.requires.here in
    let here = position-Some (is_row_at c.args.place) rows at row found in
    let others : c.of-others.result ≡ take at rows ++ take (length rows - (at + 1)) (drop (at + 1) rows) =
    c.of-others.ensures
    ∙ ap₂ (λ (first rest : List Row). take at first ++ take (length rest - (at + 1)) (drop (at + 1) rest)) c.deref.ensures.value c.deref-2.ensures.value in
    record {
      few = subst (λ (rules : List Rule). length rules ≤ 256) (sym c.deref-3.ensures.value) c.self.invariant.few;
      named = all_named _ _ (c.self.invariant.named ∙ ap names_of (sym c.deref-3.ensures.value));
      before = record {
        rows = rows;
        beside = are_with (take at rows) (take (length rows - (at + 1)) (drop (at + 1) rows)) row c.of-others.result rows others
            (sliced_around row rows at here.0 c.index-row.ensures);
        told = c.self.invariant.facts ∙ ap (λ (rules : List Rule). facts rules (sights_of rows)) (sym c.deref-3.ensures.value);
      };
      beside = are_without row c.of-others.result c.of-others.result refl;
    }

pub returns-clause-facts : goal.returns-clause-facts
returns-clause-facts g c =
    let rows = c.self.inside.rows.items in
    let at = c.args.at in
    let found : position (is_row_at c.args.place) rows ≡ Some at =
    ap (λ (v : SetView). position (is_row_at c.args.place) v.rows) c.self.view_is ∙ c.requires.here in
    let others : c.of-others.result ≡ without_row c.args.place rows =
    c.of-others.ensures
    ∙ ap₂ (λ (first rest : List Row). take at first ++ take (length rest - (at + 1)) (drop (at + 1) rest)) c.deref.ensures.value c.deref-2.ensures.value
    ∙ without_sliced c.args.place rows at c.index-row.result.now c.self.invariant.by_place found in
    rw (← c.self.view_is) (c.reevaluate.ensures.facts
    ∙ ap₂ (λ (rules : List Rule) (rows : List Row). facts rules (sights_of rows)) c.deref-3.ensures.value others)

pub returns-clause-counted : goal.returns-clause-counted
returns-clause-counted g c =
    let rules = c.self.inside.rules.items in
    let rows = c.self.inside.rows.items in
    let at = c.args.at in
    let row = c.index-row.result.now in
    let found : position (is_row_at c.args.place) rows ≡ Some at =
    ap (λ (v : SetView). position (is_row_at c.args.place) v.rows) c.self.view_is ∙ c.requires.here in
    let within : IsWithin c.args.steps.now c.reevaluate.new.steps (cond (is_idle row) 0 (2 * length rules)) =
    subst (λ (rules : List Rule). IsWithin c.args.steps.now c.reevaluate.new.steps (cond (is_idle row) 0 (2 * length rules)))
    c.deref-3.ensures.value c.reevaluate.ensures.counted in
    let told = subst (λ (r : Row). IsWithin c.args.steps.now c.reevaluate.new.steps (cond (is_idle r) 0 (2 * length rules))) c.index-row.ensures within in
    rw (← c.self.view_is) (unplug_evals c.args.place rules rows at row _ _ found told)
