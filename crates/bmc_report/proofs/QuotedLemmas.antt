-- A text of plain bytes is its own escaped form, and an escaped form has at most four times as many bytes.
use Rattle.std.proofs.Common.{◌≡◌, ℕ, ◌+◌, ◌*◌, ◌<◌, ◌≤◌, List, [], ◌∷◌, length, take, get_or, encode_utf8, true, refl}
use Rattle.std.proofs.Common.{ap, ◌∙◌, arith, zero, suc, length-append}
use Rattle.std.specs.List.{flat_map, list_all}
use Rattle.std.specs.Str.{IsAscii, IsUtf8, chars, encode_utf8_all}
use Rattle.std.proofs.lemmas.Bool.{and_parts}
use Rattle.std.proofs.lemmas.List.Folds.{length-flat_map-take}
use Rattle.std.proofs.lemmas.Bool.Decides.{nat_tests}
use Rattle.std.proofs.lemmas.Str.{chars-IsAscii, encode_ascii, encodes-chars, length-encode, len_utf8_bounds}
use Rattle.bmc_report.specs.Quoted.{escaped, is_plain}

plain_byte : (byte : ℕ) → is_plain byte ≡ true → byte < 128
plain_byte byte plain = grind (arith, nat_tests)

plain_alone : (byte : ℕ) → is_plain byte ≡ true → escaped byte ≡ byte ∷ []
plain_alone byte plain = grind (arith, nat_tests, encode_ascii)

plain_ascii : (text : List ℕ) → list_all is_plain text ≡ true → IsAscii text
plain_ascii [] plain i = omega arith
plain_ascii (byte ∷ bytes) plain zero = plain_byte byte (and_parts _ _ plain).0
plain_ascii (byte ∷ bytes) plain (suc i) = plain_ascii bytes (and_parts _ _ plain).1 i

each_alone : (text : List ℕ) → list_all is_plain text ≡ true → flat_map escaped text ≡ text
each_alone [] plain = refl
each_alone (byte ∷ bytes) plain =
    let both = and_parts (is_plain byte) (list_all is_plain bytes) plain in
    rw (plain_alone byte both.0, each_alone bytes both.1) refl

pub plain_escaped : (text : List ℕ) → list_all is_plain text ≡ true → flat_map escaped (chars text) ≡ text
plain_escaped text plain = ap (flat_map escaped) (chars-IsAscii text (plain_ascii text plain)) ∙ each_alone text plain

pub char_size : (char : ℕ) → length (encode_utf8 char) ≤ 4
char_size char = omega (arith, length-encode char, len_utf8_bounds char)

-- a character has a byte at least, and its escaped form at most four
escaped_size : (char : ℕ) → length (escaped char) ≤ 4 * length (encode_utf8 char)
escaped_size char = grind (arith, nat_tests, length-encode char, len_utf8_bounds char)

all_size : (text : List ℕ) → length (flat_map escaped text) ≤ 4 * length (encode_utf8_all text)
all_size [] = omega arith
all_size (char ∷ later) =
    omega (
      arith,
      all_size later,
      escaped_size char,
      length-append (escaped char) (flat_map escaped later),
      length-append (encode_utf8 char) (encode_utf8_all later),
    )

pub text_size : (text : List ℕ) → IsUtf8 text → length (flat_map escaped (chars text)) ≤ 4 * length text
text_size text utf8 = omega (arith, all_size (chars text), ap length (encodes-chars text utf8))

-- the characters up to one, and that one, have room where the whole text has
pub so_far_size :
    (text before : List ℕ) (char : ℕ) → IsUtf8 text → before ≡ take (length before) (chars text) → length before < length (chars text) →
    char ≡ get_or (chars text) (length before) char → length (flat_map escaped before) + length (escaped char) ≤ 4 * length text
so_far_size text before char utf8 front inside is =
    let next = length-flat_map-take escaped (chars text) (length before) char inside in
    let so_far = ap (λ (cs : List ℕ). length (flat_map escaped cs)) front in
    omega (arith, next, so_far, text_size text utf8, ap (λ (c : ℕ). length (escaped c)) is)
