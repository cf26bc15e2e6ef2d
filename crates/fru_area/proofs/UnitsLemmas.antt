-- 2-byte Unicode, one character at a time.
use Rattle.std.proofs.Common.{◌≡◌, ℕ, ◌≤◌, true, false, ◌&&◌, List, [], ◌∷◌, ◌++◌, length, encode_utf8, refl, arith, ap, ap₂, sym, ◌∙◌, append-nil}
use Rattle.std.specs.List.{flat_map}
use Rattle.std.specs.Char.Utf16.{utf16_chars, utf16_lossy_chars, is_high_surrogate, is_low_surrogate, surrogate_pair_char}
use Rattle.std.proofs.lemmas.Str.{length-encode, len_utf8_bounds}
use Rattle.fru_area.specs.Texts.{unicode_units, unicode_text}
use Rattle.fru_area.specs.Units.{unit_char_of}

abbrev text_of_units : List ℕ → List ℕ
text_of_units units = flat_map encode_utf8 (utf16_lossy_chars units)

pub length-encode_utf8-le : (code : ℕ) → length (encode_utf8 code) ≤ 4
length-encode_utf8-le code = omega (arith, length-encode code, len_utf8_bounds code)

pair_front :
    (high low : ℕ) (units : List ℕ) → (is_high_surrogate high && is_low_surrogate low) ≡ true →
    text_of_units (high ∷ low ∷ units) ≡ encode_utf8 (surrogate_pair_char high low) ++ text_of_units units
unfolding utf16_chars
pair_front high low units pair = rw pair refl

lone_front :
    (unit other : ℕ) (units : List ℕ) → (is_high_surrogate unit && is_low_surrogate other) ≡ false →
    text_of_units (unit ∷ other ∷ units) ≡ encode_utf8 (unit_char_of unit) ++ text_of_units (other ∷ units)
unfolding utf16_chars
lone_front unit other units lone = rw lone refl

last_unit : (unit : ℕ) → text_of_units (unit ∷ []) ≡ encode_utf8 (unit_char_of unit) ++ []
unfolding utf16_chars
last_unit unit = refl

pub unicode_text-pair :
    (bytes later last : List ℕ) (high low code : ℕ) → unicode_units bytes ≡ high ∷ unicode_units later → unicode_units later ≡ low ∷ unicode_units last →
    (is_high_surrogate high && is_low_surrogate low) ≡ true → code ≡ surrogate_pair_char high low → unicode_text bytes ≡ encode_utf8 code ++ unicode_text last
unicode_text-pair bytes later last high low code first second pair is =
    ap text_of_units (first ∙ ap (λ (units : List ℕ). high ∷ units) second)
    ∙ pair_front high low (unicode_units last) pair
    ∙ ap (λ (char : ℕ). encode_utf8 char ++ unicode_text last) (sym is)

pub unicode_text-lone :
    (bytes later last : List ℕ) (unit other code : ℕ) → unicode_units bytes ≡ unit ∷ unicode_units later → unicode_units later ≡ other ∷ unicode_units last →
    (is_high_surrogate unit && is_low_surrogate other) ≡ false → code ≡ unit_char_of unit → unicode_text bytes ≡ encode_utf8 code ++ unicode_text later
unicode_text-lone bytes later last unit other code first second lone is =
    ap text_of_units (first ∙ ap (λ (units : List ℕ). unit ∷ units) second)
    ∙ lone_front unit other (unicode_units last) lone
    ∙ ap₂ (λ (char : ℕ) (units : List ℕ). encode_utf8 char ++ text_of_units units) (sym is) (sym second)

pub unicode_text-last :
    (bytes later : List ℕ) (unit code : ℕ) → unicode_units bytes ≡ unit ∷ unicode_units later → later ≡ [] → code ≡ unit_char_of unit →
    unicode_text bytes ≡ encode_utf8 code ++ unicode_text later
unfolding utf16_chars
unicode_text-last bytes later unit code first none is = rw (none, is) (ap text_of_units (rw none at first) ∙ last_unit unit)

-- at the end nothing is left
pub unicode_text_all : (text rest all : List ℕ) → rest ≡ [] → text ++ unicode_text rest ≡ all → text ≡ all
unfolding utf16_chars
unicode_text_all text rest all none so_far = sym (append-nil text) ∙ rw none at so_far
