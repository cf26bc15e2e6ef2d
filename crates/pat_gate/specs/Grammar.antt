-- What regex's definitions say of the text of a pattern.
use Rattle.std.specs.Prelude.{ℕ, ◌≡◌, Bool, true, false, nat_le, List, chars, is_some}
use Rattle.regex_hir.specs.Text.{is_some_and}
use Rattle.regex_syntax.specs.Grammar.{read}
use Rattle.regex.specs.Patterns.{find_str, default_config}

-- whether the grammar reads a pattern in the text, within its limit on nesting
unfoldable pub is_pattern : List ℕ → Bool
is_pattern text = is_some_and (read default_config (chars text)) (λ (pattern, _). nat_le pattern.depth default_config.nest_limit)

-- whether the pattern that the grammar reads in the text has a match in a haystack
unfoldable pub has_match : List ℕ → List ℕ → Bool
has_match text hay = is_some_and (read default_config (chars text)) (λ (pattern, _). is_some (find_str pattern.value hay 0))

-- the grammar reads a pattern in the text
abbrev pub IsPattern : List ℕ → Type 0
IsPattern text = is_pattern text ≡ true

-- the grammar reads no pattern in the text, or its nesting is too deep
abbrev pub IsBad : List ℕ → Type 0
IsBad text = is_pattern text ≡ false
