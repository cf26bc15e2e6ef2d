-- The value of a probe: from left to right, without precedence.
use Rattle.std.specs.Prelude.{ℕ, Bool, true, false, ◌&&◌, ◌||◌, List, [], ◌∷◌, nat_lt, IsTrue}
use Rattle.std.specs.List.{list_all}
use Rattle.probe_lang.specs.declared.word.Word.{Word}
use Rattle.probe_lang.specs.declared.word.Word.TheVariants.{Always, Never, Found, Fru, And, Or}

-- what is seen of a probe: its words, and whether it ends with MATCH_ONE
pub record Probe : Type 0 where
  pub words : List Word
  pub match_one : Bool

-- the value of an operand, where patterns are true and configurations are found as these tests say
abbrev pub operand : Word → (ℕ → Bool) → (List ℕ → Bool) → Bool
operand Always is_true is_found = true
operand Never is_true is_found = false
operand (Found name) is_true is_found = is_found name
operand (Fru n) is_true is_found = is_true n
operand And is_true is_found = false
operand Or is_true is_found = false

-- whether a word asks whether a configuration is found
abbrev pub asks_found : Word → Bool
asks_found (Found name) = true
asks_found Always = false
asks_found Never = false
asks_found (Fru n) = false
asks_found And = false
asks_found Or = false

-- two values under an operator
abbrev pub joined : Word → Bool → Bool → Bool
joined And left right = left && right
joined Or left right = left || right
joined Always left right = left
joined Never left right = left
joined (Found name) left right = left
joined (Fru n) left right = left

-- a value so far, and then operators and operands in turn
abbrev pub value_from : Bool → List Word → (ℕ → Bool) → (List ℕ → Bool) → Bool
value_from so_far [] is_true is_found = so_far
value_from so_far (op ∷ []) is_true is_found = so_far
value_from so_far (op ∷ word ∷ words) is_true is_found = value_from (joined op so_far (operand word is_true is_found)) words is_true is_found

-- the value of words
abbrev pub value : List Word → (ℕ → Bool) → (List ℕ → Bool) → Bool
value [] is_true is_found = false
value (word ∷ words) is_true is_found = value_from (operand word is_true is_found) words is_true is_found

-- the most patterns of a probe: of its 33 words every second one is an operator
abbrev pub most_patterns : ℕ
most_patterns = 17

-- the number of a pattern is below 17
abbrev pub is_few : Word → Bool
is_few (Fru n) = nat_lt n most_patterns
is_few Always = true
is_few Never = true
is_few (Found name) = true
is_few And = true
is_few Or = true

abbrev pub AreFew : List Word → Type 0
AreFew words = IsTrue (list_all is_few words)
