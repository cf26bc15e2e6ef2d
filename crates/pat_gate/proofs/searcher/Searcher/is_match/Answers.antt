use Rattle.std.proofs.Common.{sym, ap, ◌∙◌, subst, inl, inr, is_some, length, true}
use Rattle.regex_dfa.specs.Search.{end_from, entry, IsEnd}
use Rattle.pat_gate.proofs.Searches.{are_bytes, end_is_match}
use Rattle.pat_gate.proofs.searcher.Searcher.is_match.Goals as goal

pub returns-in-At-clause-found : goal.returns-in-At-clause-found
returns-in-At-clause-found c =
    sym c.in-At.ensures.end.0
    ∙ end_is_match c.args.self.now.dfa.nfa c.args.hay.now c.args.anchored c.args.start (are_bytes _ c.type_inv.hay) c.requires

pub returns-in-NoMatch-clause-found : goal.returns-in-NoMatch-clause-found
returns-in-NoMatch-clause-found c =
    let nfa = c.args.self.now.dfa.nfa in
    let hay = c.args.hay.now in
    let start = c.args.start in
    let wanted = end_from nfa hay (length hay) (entry nfa c.args.anchored) start in
    elim c.in-NoMatch.is [
      | inl none ↦
          let nothing = subst (IsEnd nfa hay start (length hay) c.args.anchored true wanted) none c.find_end.ensures.end in
          sym (ap is_some nothing) ∙ end_is_match nfa hay c.args.anchored start (are_bytes _ c.type_inv.hay) c.requires
      | inr idle ↦ let asked = c.find_end.ensures.idle idle.0 idle.1 in absurd (cc (asked.0, c.args.self.now.runs_on))
    ]
