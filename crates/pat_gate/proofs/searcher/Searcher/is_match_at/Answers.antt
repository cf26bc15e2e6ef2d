use Rattle.std.proofs.Common.{◌≡◌, IfOk, Bool, refl, sym, subst}
use Rattle.pat_gate.proofs.Searches.{at_place, inside_character}
use Rattle.pat_gate.proofs.searcher.Searcher.is_match_at.Goals as goal

pub returns-then-not-is_char_boundary-clause-found : goal.returns-then-not-is_char_boundary-clause-found
returns-then-not-is_char_boundary-clause-found c =
    sym (inside_character c.args.self.now.dfa.nfa c.args.hay.now c.args.at c.requires
    (λ here. cc (c.if-not-is_char_boundary.ensures.test.1 here)))

pub returns-clause-found : goal.returns-clause-found
returns-clause-found c =
    subst (λ (wanted : Bool). IfOk c.is_match.result (λ found. found ≡ wanted))
    (at_place c.args.self.now.dfa.nfa c.args.hay.now c.args.at (c.if-not-is_char_boundary.ensures.test.0 refl))
    (rw c.as_bytes.ensures.value at c.is_match.ensures.found)
