-- Fields and their texts, in UTF-8.
use Rattle.std.specs.Prelude.{ℕ, List, [], ◌∷◌}
use Rattle.fru_area.specs.Walks.{Raw}

-- a field of this type and these bytes
abbrev pub field_of : ℕ → List ℕ → Raw
field_of kind bytes = record { kind = kind; bytes = bytes }

-- the standard's example of 6-bit ASCII: IPMI
abbrev pub packed_ipmi : List ℕ
packed_ipmi = 0x29 ∷ 0xDC ∷ 0xA6 ∷ []

-- the end of Latin 1, the letter e with an acute and U+0080
abbrev pub y_diaeresis : List ℕ
y_diaeresis = 0xC3 ∷ 0xBF ∷ []

abbrev pub e_acute : List ℕ
e_acute = 0xC3 ∷ 0xA9 ∷ []

abbrev pub first_past_ascii : List ℕ
first_past_ascii = 0xC2 ∷ 0x80 ∷ []

abbrev pub euro_sign : List ℕ
euro_sign = 0xE2 ∷ 0x82 ∷ 0xAC ∷ []

-- U+FFFD, U+1F600 and U+10FFFF
abbrev pub no_character : List ℕ
no_character = 0xEF ∷ 0xBF ∷ 0xBD ∷ []

abbrev pub grinning_face : List ℕ
grinning_face = 0xF0 ∷ 0x9F ∷ 0x98 ∷ 0x80 ∷ []

abbrev pub last_character : List ℕ
last_character = 0xF4 ∷ 0x8F ∷ 0xBF ∷ 0xBF ∷ []
