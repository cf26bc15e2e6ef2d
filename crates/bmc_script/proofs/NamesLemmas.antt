-- A name in a line: bytes at their last space, and the name of bytes.
use Rattle.std.proofs.Common.{◌≡◌, ◌≢◌, ◌∙◌, refl, sym, ap, ℕ, ◌+◌, ◌-◌, ◌<◌, ◌≤◌, ltb, cond, Bool, List, [], ◌∷◌, ◌++◌, length, get_or, take, drop}
use Rattle.std.proofs.Common.{arith, append_assoc, length-append, length-drop}
use Rattle.std.specs.Prelude.{◌==◌, reverse, Option, Some, None, option_map}
use Rattle.std.specs.Result.{result_ok}
use Rattle.std.specs.Str.{IsUtf8, is_utf8}
use Rattle.std.proofs.Math.Seq.{take-append_seam, drop-append-add}
use Rattle.std.proofs.lemmas.Bool.{eq-eqb, ne_eqb, lt-ltb, le-ltb, false_from_ne_true}
use Rattle.std.proofs.lemmas.List.{take-append-drop, drop_more, get_or-drop, get_or-reverse, get_or_append_left, get_or-append-add}
use Rattle.std.proofs.lemmas.List.{length-reverse, reverse-append, reverse-reverse}
use Rattle.std.proofs.lemmas.Grind.{reverse_onto}
use Rattle.std.proofs.lemmas.List.Sums.{position_or_len_is}
use Rattle.std.proofs.lemmas.Str.{IsUtf8-from_is_utf8, is_utf8-from_IsUtf8}
use Rattle.bmc_base.specs.Names.{name_of}
use Rattle.bmc_text.specs.Words.{split_space}
use Rattle.bmc_script.specs.Commands.{name_in, split_last_space}

abbrev pub is_space : ℕ → Bool
is_space byte = byte == 32

-- none of the bytes is a space
abbrev pub HasNoSpace : List ℕ → Type 0
HasNoSpace bytes = (k : ℕ) → k < length bytes → get_or bytes k 0 ≢ 32

-- bytes at the place of their first space
abbrev pub parts : List ℕ → ℕ → Option (List ℕ × List ℕ)
parts bytes at = option_map (λ at. (take at bytes, drop (at + 1) bytes)) (cond (ltb at (length bytes)) (Some at) None)

pub parts_at : (bytes : List ℕ) (at : ℕ) → at < length bytes → parts bytes at ≡ Some (take at bytes, drop (at + 1) bytes)
parts_at bytes at within = rw (lt-ltb at (length bytes) within) refl

parts_none : (bytes : List ℕ) → parts bytes (length bytes) ≡ None
parts_none bytes = rw (le-ltb (length bytes) (length bytes) (omega arith)) refl

split_none : (bytes : List ℕ) → HasNoSpace bytes → split_space bytes ≡ None
split_none bytes none =
    let past = position_or_len_is is_space bytes (length bytes) 0 (omega arith)
    (λ k within. ne_eqb (get_or bytes k 0) 32 (none k within))
    (λ within. absurd (omega arith)) in
    ap (parts bytes) past ∙ parts_none bytes

split_parts : (front back : List ℕ) → HasNoSpace front → split_space (front ++ 32 ∷ back) ≡ Some (front, back)
split_parts front back none =
    let all = front ++ 32 ∷ back in
    let within : length front < length all = omega (arith, length-append front (32 ∷ back)) in
    let end : length front ≡ length front + 0 = omega arith in
    let here : get_or all (length front) 0 ≡ 32 = ap (λ (k : ℕ). get_or all k 0) end ∙ get_or-append-add front (32 ∷ back) 0 0 in
    let first = position_or_len_is is_space all (length front) 0 (omega arith)
    (λ k below. ne_eqb (get_or all k 0) 32 (λ is. none k below (sym (get_or_append_left front (32 ∷ back) 0 k below) ∙ is)))
    (λ within. eq-eqb (get_or all (length front) 0) 32 here) in
    ap (parts all) first ∙ parts_at all (length front) within
    ∙ rw (take-append_seam front (32 ∷ back), drop-append-add front (32 ∷ back) 1) refl

HasNoSpace-reverse : (bytes : List ℕ) → HasNoSpace bytes → HasNoSpace (reverse bytes)
HasNoSpace-reverse bytes none k within =
    let below : k < length bytes = omega (arith, length-reverse bytes) in
    λ is. none (length bytes - 1 - k) (omega arith) (sym (get_or-reverse bytes k 0 below) ∙ is)

-- bytes without a space have no last one
pub last_none : (bytes : List ℕ) → HasNoSpace bytes → split_last_space bytes ≡ None
last_none bytes none = rw (split_none (reverse bytes) (HasNoSpace-reverse bytes none)) refl

pub last_parts : (front back : List ℕ) → HasNoSpace back → split_last_space (front ++ 32 ∷ back) ≡ Some (front, back)
last_parts front back none =
    let turned : reverse (front ++ 32 ∷ back) ≡ reverse back ++ 32 ∷ reverse front =
    reverse-append front (32 ∷ back) ∙ rw (reverse_onto back 32 [], append_assoc) refl in
    rw (turned, split_parts (reverse back) (reverse front) (HasNoSpace-reverse back none), reverse-reverse front, reverse-reverse back) refl

-- bytes at the last space
pub last_at : (bytes : List ℕ) (at : ℕ) → at < length bytes → get_or bytes at 0 ≡ 32
    → ((k : ℕ) → at + 1 ≤ k → k < length bytes → get_or bytes k 0 ≢ 32)
    → split_last_space bytes ≡ Some (take at bytes, drop (at + 1) bytes)
last_at bytes at within here behind =
    let front = take at bytes in
    let back = drop (at + 1) bytes in
    let halves : bytes ≡ front ++ 32 ∷ back = sym (take-append-drop at bytes)
    ∙ ap (λ (rest : List ℕ). front ++ rest) (drop_more bytes at 0 within ∙ ap (λ (byte : ℕ). byte ∷ back) here) in
    let none : HasNoSpace back = λ k inside is.
    behind (at + 1 + k) (omega arith) (omega (arith, length-drop (at + 1) bytes)) (sym (get_or-drop (at + 1) bytes k 0) ∙ is) in
    ap split_last_space halves ∙ last_parts front back none

-- the name of a text, and of bytes that are none
pub name_in_text : (bytes text : List ℕ) → text ≡ bytes → IsUtf8 bytes → name_in bytes ≡ result_ok (name_of text)
name_in_text bytes text is utf8 = rw (is, is_utf8-from_IsUtf8 bytes utf8) refl

pub name_in_other : (bytes : List ℕ) → (IsUtf8 bytes → ⊥) → name_in bytes ≡ None
name_in_other bytes other = rw (false_from_ne_true (is_utf8 bytes) (λ e. other (IsUtf8-from_is_utf8 bytes e))) refl
