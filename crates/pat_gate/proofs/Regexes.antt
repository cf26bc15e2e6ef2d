-- What the grammar reads in the text of a pattern, and an error of one that was refused.
use Rattle.std.proofs.Common.{◌≡◌, ◌≢◌, ◌⊎◌, ℕ, ◌<◌, ◌≤◌, Bool, true, false, List, Option, None, Some, IsSomeAnd, IfSome, is_some, All, chars, refl}
use Rattle.std.proofs.Common.{sym, ap, ◌∙◌, inl, inr, nat_le, arith}
use Rattle.std.proofs.lemmas.Bool.Decides.{nat_tests}
use Rattle.regex.specs.Patterns.{Re, find_str, default_config, SameCaptures, Reads, Refuses}
use Rattle.regex_hir.specs.Meaning.{meaning}
use Rattle.regex_hir.specs.Text.{is_some_and}
use Rattle.regex_hir.specs.declared.hir.Hir.{Hir}
use Rattle.regex_syntax.proofs.CapturesLemmas.{find_str_alike, spans}
use Rattle.regex_syntax.proofs.Written.{is_some-option_map}
use Rattle.regex_syntax.specs.Brackets.{Nested}
use Rattle.regex_syntax.specs.Grammar.{Names, read}
use Rattle.regex_syntax.specs.declared.error.ErrorKind.{ErrorKind}
use Rattle.regex_syntax.specs.declared.error.ErrorKind.TheVariants.{OutOfMemory, NestLimitExceeded}
use Rattle.pat_gate.specs.Grammar.{is_pattern, has_match, IsPattern, IsBad}

abbrev is_shallow : Nested Re × Names → Bool
is_shallow found = nat_le found.0.depth default_config.nest_limit

pattern_by : (o : Option (Nested Re × Names)) (P : Nested Re × Names → Type 0)
    → ((found : Nested Re × Names) → P found → found.0.depth ≤ default_config.nest_limit)
    → IsSomeAnd o P → is_some_and o is_shallow ≡ true
pattern_by None P shallow h = absurd h
pattern_by (Some found) P shallow h = let low = shallow found h in grind (arith, nat_tests, low)

pub reads_pattern : (text : List ℕ) (hir : Hir) (names : Names) → Reads default_config text hir names → IsPattern text
unfolding Reads is_pattern
reads_pattern text hir names reads = pattern_by (read default_config (chars text)) _ (λ found h. h.0) reads

match_by : (P : Nested Re × Names → Type 0) (re : Re) → ((found : Nested Re × Names) → P found → SameCaptures re found.0.value)
    → (o : Option (Nested Re × Names)) → IsSomeAnd o P → (hay : List ℕ) → All (λ x. x < 256) hay
    → is_some (find_str re hay 0) ≡ is_some_and o (λ found. is_some (find_str found.0.value hay 0))
match_by P re same None h hay bytes = absurd h
match_by P re same (Some found) h hay bytes =
    sym (is_some-option_map spans (find_str re hay 0))
    ∙ ap is_some (find_str_alike re found.0.value (same found h) hay bytes 0)
    ∙ is_some-option_map spans (find_str found.0.value hay 0)

-- what the grammar reads in a text has a match where the text says so
pub reads_match : (text : List ℕ) (hir : Hir) (names : Names) → Reads default_config text hir names
    → (hay : List ℕ) → All (λ x. x < 256) hay → is_some (find_str (meaning hir) hay 0) ≡ has_match text hay
unfolding Reads has_match
reads_match text hir names reads hay bytes = match_by _ (meaning hir) (λ found h. h.1) (read default_config (chars text)) reads hay bytes

bad_by : (kind : ErrorKind) (o : Option (Nested Re × Names))
    → (o ≡ None) ⊎ ((kind ≡ NestLimitExceeded) × IfSome o (λ found. default_config.nest_limit < found.0.depth))
    → is_some_and o is_shallow ≡ false
bad_by kind None h = refl
bad_by kind (Some found) h = elim h [
  | inl none ↦ absurd (cc)
  | inr deep ↦ let high : default_config.nest_limit < found.0.depth = deep.1 in grind (arith, nat_tests, high)
]

-- an error of syntax comes of a bad text
pub refuses_bad : (text : List ℕ) (kind : ErrorKind) → Refuses default_config text kind → kind ≢ OutOfMemory → IsBad text
unfolding Refuses is_pattern
refuses_bad text kind refuses own = elim refuses [
  | inl memory ↦ absurd (own memory)
  | inr bad ↦ bad_by kind (read default_config (chars text)) bad
]
