-- What changes with a row more.
use Rattle.std.proofs.Common.{◌≡◌, ◌∙◌, ◌-◌, ◌*◌, ◌≤◌, length, subst, ◌∷◌, ◌++◌, List, ap, ap₂, sym, take, drop, cond}
use Rattle.std.specs.List.{position_or_len}
use Rattle.bmc_base.specs.Steps.{IsWithin}
use Rattle.found_set.specs.declared.row.Row.{Row}
use Rattle.found_set.specs.Found.{Rule, facts, names_of}
use Rattle.found_set.specs.Rows.{sights_of, is_row_after, with_row, is_idle}
use Rattle.found_set.specs.Sets.{SetView}
use Rattle.found_set.proofs.NamedLemmas.{all_named}
use Rattle.found_set.proofs.RowsLemmas.{with_sliced, all_sliced}
use Rattle.found_set.proofs.IdleLemmas.{are_with, are_without}
use Rattle.found_set.proofs.set.FoundSet.facts_with.Goals as goal

pub reevaluate-requires : goal.reevaluate-requires
reevaluate-requires g c =
    let at = c.args.at in
    let rows = c.self.inside.rows.items in
    let row = c.args.row.now in
    let others : c.of-others.result ≡ take at rows ++ take (length rows - at) (drop at rows) =
    c.of-others.ensures
    ∙ ap₂ (λ (first rest : List Row). take at first ++ take (length rest - at) (drop at rest)) c.deref.ensures.value c.deref-2.ensures.value in
    record {
      few = subst (λ (rules : List Rule). length rules ≤ 256) (sym c.deref-5.ensures.value) c.self.invariant.few;
      named = all_named _ _ (c.self.invariant.named ∙ ap names_of (sym c.deref-5.ensures.value));
      before = record {
        rows = rows;
        beside = are_without row c.of-others.result rows (others ∙ all_sliced rows at);
        told = c.self.invariant.facts ∙ ap (λ (rules : List Rule). facts rules (sights_of rows)) (sym c.deref-5.ensures.value);
      };
      beside = are_with (take at rows) (take (length rows - at) (drop at rows)) row c.of-others.result c.with-rows.result others
          (c.with-rows.ensures
          ∙ ap₂ (λ (first rest : List Row). take at first ++ row ∷ take (length rest - at) (drop at rest)) c.deref-3.ensures.value c.deref-4.ensures.value);
    }

pub returns-clause-facts : goal.returns-clause-facts
returns-clause-facts g c =
    let at = c.args.at in
    let rows = c.self.inside.rows.items in
    let row = c.args.row.now in
    let first : at ≡ position_or_len (is_row_after row.place) rows =
    c.requires.here ∙ sym (ap (λ (v : SetView). position_or_len (is_row_after row.place) v.rows) c.self.view_is) in
    let after : c.with-rows.result ≡ with_row row rows =
    c.with-rows.ensures
    ∙ ap₂ (λ (first rest : List Row). take at first ++ row ∷ take (length rest - at) (drop at rest)) c.deref-3.ensures.value c.deref-4.ensures.value
    ∙ with_sliced row rows at first in
    rw (← c.self.view_is) (c.reevaluate.ensures.facts
    ∙ ap₂ (λ (rules : List Rule) (rows : List Row). facts rules (sights_of rows)) c.deref-5.ensures.value after)

pub returns-clause-counted : goal.returns-clause-counted
returns-clause-counted g c =
    let within : IsWithin c.args.steps.now c.reevaluate.new.steps (cond (is_idle c.args.row.now) 0 (2 * length c.self.inside.rules.items)) =
    subst (λ (rules : List Rule). IsWithin c.args.steps.now c.reevaluate.new.steps (cond (is_idle c.args.row.now) 0 (2 * length rules)))
    c.deref-5.ensures.value c.reevaluate.ensures.counted in
    rw (← c.self.view_is) within
