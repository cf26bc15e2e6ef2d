-- Plain patterns: a text without operators, maybe behind `^`, before `$` or between both.
use Rattle.std.specs.Prelude.{ℕ, ◌≡◌, ◌<◌, Bool, true, not, ◌&&◌, if◌then◌else◌, List, [], ◌++◌, length, codes}
use Rattle.std.specs.List.{list_all}
use Rattle.std.specs.Char.{is_ascii}
use Rattle.regex_syntax.specs.Reading.{◌∈◌}

-- whether the character has a meaning of its own in a pattern
abbrev pub is_operator : ℕ → Bool
is_operator c = c ∈ "\\.+*?()|[{^$"

-- whether it is an ASCII character without one
abbrev pub is_plain : ℕ → Bool
is_plain c = is_ascii c && not (is_operator c)

-- a text, and whether it has to stand at the start and at the end of a haystack
pub record Plain : Type 0 where
  pub text : List ℕ
  pub at_start : Bool
  pub at_end : Bool

-- the text is not empty, and all its characters are plain
pub record IsPlain (plain : Plain) : Type 0 where
  pub some : 0 < length plain.text
  pub all : list_all is_plain plain.text ≡ true

-- how it is written as a pattern
abbrev pub written : Plain → List ℕ
written plain = (if plain.at_start then codes "^" else []) ++ (plain.text ++ (if plain.at_end then codes "$" else []))

-- the text stands in the haystack, with nothing before it where it has to stand at the start, and nothing behind it at the end
pub record StandsIn (plain : Plain) (hay : List ℕ) : Type 0 where
  pub before : List ℕ
  pub behind : List ℕ
  pub parts : hay ≡ before ++ (plain.text ++ behind)
  pub at_start : plain.at_start ≡ true → before ≡ []
  pub at_end : plain.at_end ≡ true → behind ≡ []
