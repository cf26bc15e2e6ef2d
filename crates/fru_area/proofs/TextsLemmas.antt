-- The texts of fields: 6-bit ASCII, three bytes at a time, and Latin 1, byte by byte.
use Rattle.std.proofs.Common.{◌≡◌, ℕ, zero, suc, ◌+◌, ◌*◌, ◌/◌, ◌%◌, ◌-◌, ◌^◌, ◌<◌, ◌≤◌, min, ◌⊎◌, inl, inr, List, [], ◌∷◌, ◌++◌, length, take}
use Rattle.std.proofs.Common.{get_or, encode_utf8, refl, arith, ap, ap₂, sym, ◌∙◌, append-nil, append_assoc, length-append}
use Rattle.std.specs.Char.{len_utf8}
use Rattle.std.specs.Str.{IsAscii}
use Rattle.std.proofs.lemmas.Str.{length-encode, encode_ascii}
use Rattle.std.proofs.lemmas.List.{take_more, flat_map_more}
use Rattle.std.proofs.lemmas.Grind.{common_steps}
use Rattle.fru_area.specs.Texts.{little_endian, six_bit_chars, six_bit_text, latin_text}

pub length-six_bit_chars : (count bits : ℕ) → length (six_bit_chars count bits) ≡ count
length-six_bit_chars zero bits = refl
length-six_bit_chars (suc count) bits = ap suc (length-six_bit_chars count (bits / 64))

-- a character comes off the low bits, whatever stands above them
six_bit_chars_low :
    (count low high : ℕ) → six_bit_chars (suc count) (low + 64 * high) ≡ (32 + low % 64) ∷ six_bit_chars count (low / 64 + high)
six_bit_chars_low count low high =
    let rem : (low + 64 * high) % 64 ≡ low % 64 = omega arith in
    let quot : (low + 64 * high) / 64 ≡ low / 64 + high = omega arith in
    rw (rem, quot) refl

-- the text so far with a character more, and the characters that are left
pub six_bit_chars_more :
    (old new all : List ℕ) (count done bits : ℕ) → done < count → new ≡ old ++ (32 + bits % 64) ∷ [] →
    old ++ six_bit_chars (count - done) bits ≡ all → new ++ six_bit_chars (count - (done + 1)) (bits / 64) ≡ all
six_bit_chars_more old new all count done bits more pushed so_far =
    let left : count - done ≡ suc (count - (done + 1)) = omega arith in
    rw (pushed, append_assoc) (rw left at so_far)

-- four characters come off three bytes
six_bit_chars_four :
    (count low high : ℕ) → low < 2 ^ 24 →
    six_bit_chars (suc (suc (suc (suc count)))) (low + 16777216 * high) ≡ six_bit_chars 4 low ++ six_bit_chars count high
six_bit_chars_four count low high small =
    let above : low + 16777216 * high ≡ low + 64 * (262144 * high) = omega arith in
    let above_second : low / 64 + 262144 * high ≡ low / 64 + 64 * (4096 * high) = omega arith in
    let above_third : low / 64 / 64 + 4096 * high ≡ low / 64 / 64 + 64 * (64 * high) = omega arith in
    let above_fourth : low / 64 / 64 / 64 / 64 + high ≡ high = omega arith in
    let first =
    ap (six_bit_chars (suc (suc (suc (suc count))))) above ∙ six_bit_chars_low (suc (suc (suc count))) low (262144 * high) in
    let second =
    ap (six_bit_chars (suc (suc (suc count)))) above_second ∙ six_bit_chars_low (suc (suc count)) (low / 64) (4096 * high) in
    let third = ap (six_bit_chars (suc (suc count))) above_third ∙ six_bit_chars_low (suc count) (low / 64 / 64) (64 * high) in
    let fourth =
    six_bit_chars_low count (low / 64 / 64 / 64) high
    ∙ ap (λ (bits : ℕ). (32 + low / 64 / 64 / 64 % 64) ∷ six_bit_chars count bits) above_fourth in
    first
    ∙ ap (λ (text : List ℕ). (32 + low % 64) ∷ text)
    (second ∙ ap (λ (text : List ℕ). (32 + low / 64 % 64) ∷ text) (third ∙ ap (λ (text : List ℕ). (32 + low / 64 / 64 % 64) ∷ text) fourth))

six_bit_text_three :
    (one two three : ℕ) (later : List ℕ) → little_endian (one ∷ two ∷ three ∷ []) < 2 ^ 24 →
    six_bit_text (one ∷ two ∷ three ∷ later) ≡ six_bit_chars 4 (little_endian (one ∷ two ∷ three ∷ [])) ++ six_bit_text later
six_bit_text_three one two three later small =
    let bits = little_endian (one ∷ two ∷ three ∷ []) in
    let number : little_endian (one ∷ two ∷ three ∷ later) ≡ little_endian (one ∷ two ∷ three ∷ []) + 16777216 * little_endian later = omega arith in
    let count : 8 * suc (suc (suc (length later))) / 6 ≡ suc (suc (suc (suc (8 * length later / 6)))) = omega arith in
    rw (count, number) (six_bit_chars_four (8 * length later / 6) bits (little_endian later) small)

-- a group of three bytes, or of all that is left, comes off the front
six_bit_text_group :
    (group later : List ℕ) → (length group ≡ 3) ⊎ (later ≡ []) → little_endian group < 2 ^ 24 →
    six_bit_text (group ++ later) ≡ six_bit_chars (8 * length group / 6) (little_endian group) ++ six_bit_text later
six_bit_text_group group later (inr none) small = rw (none, append-nil group) (sym (append-nil _))
six_bit_text_group (one ∷ two ∷ three ∷ []) later (inl size) small = six_bit_text_three one two three later small
six_bit_text_group [] later (inl size) small = absurd (omega arith)
six_bit_text_group (one ∷ []) later (inl size) small = absurd (omega arith)
six_bit_text_group (one ∷ two ∷ []) later (inl size) small = absurd (omega arith)
six_bit_text_group (one ∷ two ∷ three ∷ four ∷ group) later (inl size) small = absurd (omega arith)

pub three_or_all :
    (group later : List ℕ) (n : ℕ) → length group ≡ min n 3 → length later + length group ≡ n → (length group ≡ 3) ⊎ (later ≡ [])
three_or_all group [] n size all = inr refl
three_or_all group (byte ∷ later) n size all = inl (omega arith)

-- the text so far with that of one group more, and that of the bytes that are left
pub six_bit_text_more :
    (text new rest group later all : List ℕ) (bits : ℕ) → rest ≡ group ++ later → (length group ≡ 3) ⊎ (later ≡ []) →
    bits ≡ little_endian group → bits < 2 ^ 24 → new ≡ text ++ six_bit_chars (8 * length group / 6) bits →
    text ++ six_bit_text rest ≡ all → new ++ six_bit_text later ≡ all
six_bit_text_more text new rest group later all bits split size is small pushed so_far =
    let front = six_bit_text_group group later size (rw is at small) in
    rw (pushed, append_assoc, is) (rw (split, front) at so_far)

len_utf8-latin : (byte : ℕ) → byte < 256 → len_utf8 byte ≤ 2
len_utf8-latin byte small = grind (arith, common_steps)

pub length-encode_utf8-latin : (byte : ℕ) → byte < 256 → length (encode_utf8 byte) ≤ 2
length-encode_utf8-latin byte small = omega (arith, length-encode byte, len_utf8-latin byte small)

pub latin_text_more :
    (bytes : List ℕ) (done : ℕ) → done < length bytes →
    latin_text (take (done + 1) bytes) ≡ latin_text (take done bytes) ++ encode_utf8 (get_or bytes done 0)
latin_text_more bytes done more =
    ap latin_text (take_more bytes done 0 more) ∙ sym (flat_map_more encode_utf8 [] (take done bytes) (get_or bytes done 0))

-- a text with one character more
pub length-latin_more :
    (old new : List ℕ) (byte done : ℕ) → byte < 256 → new ≡ old ++ encode_utf8 byte → length old ≤ 2 * done → length new ≤ 2 * (done + 1)
length-latin_more old new byte done small pushed short =
    omega (arith, ap length pushed, length-append old (encode_utf8 byte), length-encode_utf8-latin byte small)

-- ASCII is Latin 1 as it stands
pub latin_ascii : (bytes : List ℕ) → IsAscii bytes → latin_text bytes ≡ bytes
latin_ascii [] all = refl
latin_ascii (byte ∷ bytes) all =
    ap₂ (λ (first rest : List ℕ). first ++ rest) (encode_ascii byte (all 0))
    (latin_ascii bytes (λ n. all (suc n)))
