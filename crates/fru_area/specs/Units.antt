-- 2-byte Unicode (FRU definition 1.0, section 13), from the front.
use Rattle.std.specs.Prelude.{ℕ, ◌+◌, ◌≡◌, ◌<◌, ◌≤◌, List, ◌∷◌, ◌++◌, length, encode_utf8}
use Rattle.std.specs.Option.{unwrap_or}
use Rattle.std.specs.Char.Utf16.{lone_unit_char}
use Rattle.fru_area.specs.Texts.{replacement, unicode_units, unicode_text}

-- a unit at the front, and the bytes behind it
pub record IsFirstUnit (bytes : List ℕ) (unit : ℕ) (later : List ℕ) : Type 0 where
  pub units : unicode_units bytes ≡ unit ∷ unicode_units later
  pub shorter : length later < length bytes
  pub two : 0 < length later → length later + 2 ≤ length bytes

-- a character at the front, and the bytes behind it
pub record IsFirstChar (bytes : List ℕ) (first : ℕ) (later : List ℕ) : Type 0 where
  pub text : unicode_text bytes ≡ encode_utf8 first ++ unicode_text later
  pub size : length (encode_utf8 first) ≤ 4
  pub shorter : length later < length bytes
  pub two : 0 < length later → length later + 2 ≤ length bytes

-- the character of a unit that is in no pair
abbrev pub unit_char_of : ℕ → ℕ
unit_char_of unit = unwrap_or (lone_unit_char unit) replacement
