use Rattle.std.proofs.Common.{◌≡◌, ◌≤◌, ℕ, false, inl, inr, sym, ◌∙◌, subst, length, is_some, arith}
use Rattle.std.proofs.lemmas.Bool.{cases_lt}
use Rattle.regex_dfa.specs.declared.dfa.Dfa.{Dfa}
use Rattle.pat_gate.proofs.Searches.{some_in_text, none_at_places}
use Rattle.pat_gate.specs.Searches.{text_match_at}
use Rattle.pat_gate.proofs.searcher.Searcher.is_match_at_some_place.Goals as goal

pub returns-then-branch-clause-found : goal.returns-then-branch-clause-found
returns-then-branch-clause-found c =
    let found = subst (λ (dfa : Dfa). c.in_ok-is_match_at.field-0 ≡ is_some (text_match_at dfa.nfa c.args.hay.now c.loop-at.at))
    c.loop-at.invariant.0 c.in_ok-is_match_at.ensures.found in
    sym (some_in_text c.args.self.now.dfa.nfa c.args.hay.now c.loop-at.at (omega arith) (sym found ∙ c.if-branch.true))

pub returns-else-branch-clause-found : goal.returns-else-branch-clause-found
returns-else-branch-clause-found c =
    let nfa = c.args.self.now.dfa.nfa in
    let hay = c.args.hay.now in
    let found = subst (λ (dfa : Dfa). c.in_ok-is_match_at.field-0 ≡ is_some (text_match_at dfa.nfa hay c.loop-at.at))
    c.loop-at.invariant.0 c.in_ok-is_match_at.ensures.found in
    sym (none_at_places nfa hay (λ (i : ℕ) (inside : i ≤ length hay). elim (cases_lt i c.loop-at.at) [
      | inl before ↦ c.loop-at.invariant.1 i before
      | inr from ↦
          let same : c.loop-at.at ≡ i = omega arith in
          subst (λ x. is_some (text_match_at nfa hay x) ≡ false) same (sym found ∙ c.if-branch.false)
    ]))
