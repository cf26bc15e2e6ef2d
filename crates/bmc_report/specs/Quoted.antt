-- Texts between quotes.
use Rattle.std.specs.Prelude.{ℕ, ◌+◌, ◌/◌, ◌%◌, nat_lt, nat_le, ◌==◌, Bool, ◌&&◌, ◌||◌, not, if◌then◌else◌, List, [], ◌∷◌, ◌++◌}
use Rattle.std.specs.Prelude.{codes, chars, encode_utf8}
use Rattle.std.specs.List.{flat_map}

-- a lower-case hexadecimal digit
abbrev pub hex_digit : ℕ → ℕ
hex_digit value = if nat_lt value 10 then 48 + value else 87 + value

-- a character between quotes: \" and \\ for these two, \x and two digits for one below 20h and for 7Fh, else itself
abbrev pub escaped : ℕ → List ℕ
escaped char =
    if char == 34 || char == 92 then 92 ∷ char ∷ []
    else if nat_lt char 32 || char == 127 then codes "\\x" ++ (hex_digit (char / 16) ∷ hex_digit (char % 16) ∷ [])
    else encode_utf8 char

-- a byte that stands for itself between quotes, alone
abbrev pub is_plain : ℕ → Bool
is_plain byte = nat_le 32 byte && nat_lt byte 127 && not (byte == 34) && not (byte == 92)

-- a text between quotes
unfoldable pub quoted : List ℕ → List ℕ
quoted text = codes "\"" ++ flat_map escaped (chars text) ++ codes "\""
