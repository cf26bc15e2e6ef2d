-- What a search for one pattern finds.
use Rattle.std.specs.Prelude.{ℕ, ◌≡◌, ◌<◌, ◌≤◌, Bool, false, List, length, All, Option, None, is_some, if◌then◌else◌}
use Rattle.regex_hir.specs.Find.{Match, first_between}
use Rattle.regex_hir.specs.Re.{Trace}
use Rattle.regex_hir.specs.Text.{is_boundary}
use Rattle.regex_nfa.specs.Run.{run}
use Rattle.regex_nfa.specs.declared.nfa.Nfa.{Nfa}
use Rattle.pat_gate.specs.Grammar.{has_match}

-- the last place at which a match may start: an anchored one starts where the search does
abbrev pub last_start : List ℕ → ℕ → Bool → ℕ
last_start hay start anchored = if anchored then start else length hay

-- the match of an NFA that starts at a place of a text; none starts inside a character
abbrev pub text_match_at : Nfa → List ℕ → ℕ → Option Trace
text_match_at nfa hay i = if is_boundary hay i then run nfa hay (length hay) nfa.start i else None

-- the leftmost of them
abbrev pub first_in_text : Nfa → List ℕ → Option Match
first_in_text nfa hay = first_between (text_match_at nfa hay) 0 (length hay)

-- no match of the NFA starts later than the text does
abbrev pub StartsAtStart : Nfa → Type 0
StartsAtStart nfa = (hay : List ℕ) (i : ℕ) → 0 < i → i ≤ length hay → is_some (run nfa hay (length hay) nfa.start i) ≡ false

-- the NFA has a match in exactly the texts in which the pattern of this text has one
abbrev pub Serves : Nfa → List ℕ → Type 0
Serves nfa pattern = (hay : List ℕ) → All (λ b. b < 256) hay → is_some (first_in_text nfa hay) ≡ has_match pattern hay
