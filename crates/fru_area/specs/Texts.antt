-- The text of a field (FRU definition 1.0, section 13), in UTF-8.
use Rattle.std.specs.Prelude.{ℕ, zero, suc, ◌+◌, ◌*◌, ◌-◌, ◌/◌, ◌%◌, Bool, ◌==◌, ◌||◌, nat_lt, if◌then◌else◌, List, [], ◌∷◌, length, slice_index}
use Rattle.std.specs.Prelude.{encode_utf8, codes}
use Rattle.std.specs.List.{flat_map}
use Rattle.std.specs.Char.Utf16.{utf16_lossy_chars}
use Rattle.hex.specs.Hex.{encode_lower}
use Rattle.fru_area.specs.Walks.{Raw}

-- the most bytes of the text of a field: a field of 63 bytes comes to no more
abbrev pub longest_text : ℕ
longest_text = 128

-- the character of a nibble of BCD plus
abbrev pub bcd_char : ℕ → ℕ
bcd_char nibble = if nat_lt nibble 10 then 48 + nibble else slice_index (codes " -.:,_") (nibble - 10)

-- BCD plus, the high nibble first
abbrev pub bcd_text : List ℕ → List ℕ
bcd_text bytes = flat_map (λ byte. bcd_char (byte / 16) ∷ bcd_char (byte % 16) ∷ []) bytes

-- bytes as one number, the low byte first
abbrev pub little_endian : List ℕ → ℕ
little_endian [] = 0
little_endian (byte ∷ bytes) = byte + 256 * little_endian bytes

-- the lowest groups of six bits of a number, so many of them, each as a character from the space on
abbrev pub six_bit_chars : ℕ → ℕ → List ℕ
six_bit_chars zero bits = []
six_bit_chars (suc count) bits = (0x20 + bits % 64) ∷ six_bit_chars count (bits / 64)

-- 6-bit ASCII, packed from the low bits up; bits that are left over are dropped
abbrev pub six_bit_text : List ℕ → List ℕ
six_bit_text bytes = six_bit_chars (8 * length bytes / 6) (little_endian bytes)

-- Latin 1, a character for each byte
abbrev pub latin_text : List ℕ → List ℕ
latin_text bytes = flat_map encode_utf8 bytes

-- stands for what is no character
abbrev pub replacement : ℕ
replacement = 0xFFFD

-- the units of 2-byte Unicode, the low byte first; an odd byte at the end is no character
abbrev pub unicode_units : List ℕ → List ℕ
unicode_units [] = []
unicode_units (odd ∷ []) = replacement ∷ []
unicode_units (low ∷ high ∷ bytes) = (low + 256 * high) ∷ unicode_units bytes

-- 2-byte Unicode: a surrogate pair is one character, and a surrogate without its partner is none
abbrev pub unicode_text : List ℕ → List ℕ
unicode_text bytes = flat_map encode_utf8 (utf16_lossy_chars (unicode_units bytes))

-- the types of fields: binary, BCD plus, 6-bit ASCII, and text by the language of the area
abbrev pub binary : ℕ
binary = 0

abbrev pub bcd_plus : ℕ
bcd_plus = 1

abbrev pub six_bit : ℕ
six_bit = 2

abbrev pub by_language : ℕ
by_language = 3

-- the text of a field by its type; text by language is Latin 1 where it counts as English, and else 2-byte Unicode
unfoldable pub text_of : Bool → Raw → List ℕ
text_of english raw =
    if raw.kind == binary then encode_lower raw.bytes
    else if raw.kind == bcd_plus then bcd_text raw.bytes
    else if raw.kind == six_bit then six_bit_text raw.bytes
    else if english then latin_text raw.bytes
    else unicode_text raw.bytes

-- whether text in this language counts as English
abbrev pub is_english_language : ℕ → Bool
is_english_language language = language == 0 || language == 25
