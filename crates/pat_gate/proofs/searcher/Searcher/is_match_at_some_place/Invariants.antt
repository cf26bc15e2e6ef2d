use Rattle.std.proofs.Common.{◌≡◌, ℕ, ◌<◌, false, is_some}
use Rattle.pat_gate.specs.Searches.{text_match_at}
use Rattle.pat_gate.proofs.searcher.Searcher.is_match_at_some_place.Given as goal

abbrev pub invariant-loop-at : goal.invariant-loop-at
invariant-loop-at l =
    (l.self.dfa ≡ l.fn.self.dfa) × ((i : ℕ) → i < l.at → is_some (text_match_at l.fn.self.dfa.nfa l.hay i) ≡ false)
