use Rattle.std.proofs.Common.{◌≡◌, Bool, IfOk, sym, ◌∙◌, ap, subst, is_some}
use Rattle.pat_gate.proofs.Searches.{none_in_text, ascii_in_text, found_at_start}
use Rattle.pat_gate.proofs.searcher.Searcher.found_in.Goals as goal

pub returns-then-self-clause-found : goal.returns-then-self-clause-found
returns-then-self-clause-found c =
    let searcher = c.args.self.now in
    subst (λ (wanted : Bool). IfOk c.is_match_at.result (λ found. found ≡ wanted))
    (sym (found_at_start searcher.dfa.nfa c.args.hay.now (searcher.starts c.if-self.true)))
    c.is_match_at.ensures.found

pub returns-then-not-branch-clause-found : goal.returns-then-not-branch-clause-found
returns-then-not-branch-clause-found c =
    let found = rw c.as_bytes.ensures.value at c.in_ok-is_match.ensures.found in
    sym (none_in_text c.args.self.now.dfa.nfa c.args.hay.now (sym found ∙ c.if-not-branch.true))

pub returns-then-is_ascii-clause-found : goal.returns-then-is_ascii-clause-found
returns-then-is_ascii-clause-found c =
    let found = rw c.as_bytes.ensures.value at c.in_ok-is_match.ensures.found in
    sym c.if-not-branch.false ∙ found ∙ ap is_some (ascii_in_text c.args.self.now.dfa.nfa c.args.hay.now c.if-is_ascii.ensures.cases)
