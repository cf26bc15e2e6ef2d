-- No rules and no rows.
use Rattle.std.proofs.Common.{◌∙◌, ◌≤◌, List, [], length, sym, subst, ap, ap₂, arith}
use Rattle.found_set.specs.declared.row.Row.{Row}
use Rattle.found_set.specs.Found.{Rule, facts, names_of}
use Rattle.found_set.specs.Rows.{sights_of, are_by_place}
use Rattle.found_set.proofs.InsidesLemmas.{bare, seen_bare}
use Rattle.found_set.proofs.set.FoundSet.new.Goals as goal

pub invariant_of-result : goal.invariant_of-result
invariant_of-result g c = record {
  few = let few : length {A = Rule} [] ≤ 256 = omega arith in subst (λ (rs : List Rule). length rs ≤ 256) (sym c.in_ok-rules.ensures.items) few;
  named = c.in_ok-names.ensures ∙ ap names_of (sym c.in_ok-rules.ensures.items);
  by_place = ap are_by_place c.in_ok-rows.ensures.items;
  facts = c.no_facts.ensures
      ∙ ap₂ (λ (rs : List Rule) (ws : List Row). facts rs (sights_of ws)) (sym c.in_ok-rules.ensures.items) (sym c.in_ok-rows.ensures.items);
  next = bare _;
  room = bare _;
}

pub returns : goal.returns
returns g c = seen_bare _ _ _ _ _ _ c.in_ok-rules.ensures.items c.in_ok-rows.ensures.items c.no_facts.ensures
