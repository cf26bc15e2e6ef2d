-- Words of lines, and numbers that are read back from their texts.
use Rattle.std.proofs.Common.{◌≡◌, ◌≢◌, ◌<◌, ◌≤◌, ◌*◌, ◌^◌, ℕ, suc, List, ◌∷◌, ◌++◌, length, Bool, true, false, cond, refl, sym, ap, ◌∙◌, arith, lt-ltb}
use Rattle.std.proofs.Common.{le-leb, ne_eqb, eqb-true, rules, ltb, slice_index, take, drop, ◌+◌}
use Rattle.std.specs.Prelude.{Option, Some, None, option_map, option_and_then, position, codes, bytes_eq, decimal, fold, ℤ, pos, negsuc, neg_ℤ, nat_abs}
use Rattle.std.specs.Prelude.{◌*ℤ◌, ◌==◌}
use Rattle.std.specs.Fmt.{signed_decimal}
use Rattle.std.specs.List.{list_all, position_or_len}
use Rattle.std.specs.Str.Parse.{starts_with_minus}
use Rattle.std.proofs.lemmas.Bool.{le-ltb}
use Rattle.std.proofs.lemmas.List.{take-append-drop}
use Rattle.std.proofs.lemmas.List.Quantifiers.{position-Some}
use Rattle.std.proofs.lemmas.List.Sums.{position_or_len_is}
use Rattle.std.proofs.lemmas.Slice.Eq.{bytes_eq-Decides}
use Rattle.std.proofs.Math.Seq.{drop-cons}
use Rattle.bmc_text.proofs.Powers.{below_power}
use Rattle.std.proofs.lemmas.Str.Parse.{IsNumeralModel, numerals_by_fold, not_in_digits}
use Rattle.std.proofs.lemmas.Fmt.{digits_decimal, digits_value-decimal, decimal_nonempty, length-decimal-le}
use Rattle.bmc_text.specs.Words.{is_digit, with_digit, digits, number, number_digits, raw, raw_digits, whole_digits, signed, units, decimal_units, split_at}
use Rattle.bmc_text.specs.Words.{split_space, size_of, block_size}

abbrev all_digits : List ℕ → Type 0
all_digits text = list_all is_digit text ≡ true

abbrev read_on : ℕ → List ℕ → ℕ
read_on number text = fold with_digit number text

-- these words are std's
own : IsNumeralModel all_digits (read_on 0)
own = numerals_by_fold _ (search rules) read_on (search rules)

digits_is : (longest : ℕ) (text : List ℕ) → 0 < length text → length text ≤ longest → all_digits text → digits longest text ≡ Some (read_on 0 text)
unfolding digits
digits_is longest text some few all = rw (lt-ltb 0 (length text) some, le-leb (length text) longest few, all)

-- a number of so many digits at the most is read as that number
digits-decimal : (longest n : ℕ) → 0 < longest → longest ≤ 18 → n < 10 ^ longest → digits longest (decimal n) ≡ Some n
digits-decimal longest n some few below =
    let fits : n < 2 ^ 64 = omega (arith, below_power n longest 18 below few) in
    digits_is longest (decimal n) (decimal_nonempty n fits) (length-decimal-le longest n some below fits) (digits_decimal own n fits)
    ∙ ap Some (digits_value-decimal own n fits)

pub number-decimal : (n : ℕ) → n < 10 ^ number_digits → number (decimal n) ≡ Some n
unfolding number
number-decimal n below = digits-decimal number_digits n (omega arith) (omega arith) below

-- no byte of the text of a number is another byte than a digit
other_byte : (mark n : ℕ) → mark < 48 → n < 2 ^ 64 → (k : ℕ) → k < length (decimal n) → (slice_index (decimal n) k == mark) ≡ false
other_byte mark n below fits k within =
    ne_eqb (slice_index (decimal n) k) mark (not_in_digits own (decimal n) mark (digits_decimal own n fits) (λ range. omega (arith, range.0)) k within)

no_minus : (n : ℕ) → n < 2 ^ 64 → starts_with_minus (decimal n) ≡ false
no_minus n fits = other_byte 45 n (omega arith) fits 0 (decimal_nonempty n fits)

no_point : (n : ℕ) → n < 2 ^ 64 → split_at 46 (decimal n) ≡ None
no_point n fits =
    let all : position_or_len (λ byte. byte == 46) (decimal n) ≡ length (decimal n) =
    position_or_len_is (λ byte. byte == 46) (decimal n) (length (decimal n)) 0 (omega arith) (λ k within. other_byte 46 n (omega arith) fits k within)
    (λ beyond. absurd (omega arith)) in
    ap (option_map (λ at. (take at (decimal n), drop (at + 1) (decimal n))))
    (ap (λ at. cond (ltb at (length (decimal n))) (Some at) None) all
    ∙ ap (λ test. cond test (Some (length (decimal n))) None) (le-ltb (length (decimal n)) (length (decimal n)) (omega arith)))

-- the number with the sign of z
abbrev signed_as : ℤ → ℕ → ℤ
signed_as (pos n) number = pos number
signed_as (negsuc n) number = neg_ℤ (pos number)

signed_as-same : (z : ℤ) → signed_as z (nat_abs z) ≡ z
signed_as-same (pos n) = refl
signed_as-same (negsuc n) = refl

signed_as-times : (z : ℤ) (factor : ℕ) → signed_as z (nat_abs z * factor) ≡ z *ℤ pos factor
signed_as-times (pos n) factor = refl
signed_as-times (negsuc n) factor = refl

-- what reads the text of a number reads it behind a sign
signed-decimal : (read : List ℕ → Option ℕ) (z : ℤ) (found : ℕ) → nat_abs z < 2 ^ 64 → read (decimal (nat_abs z)) ≡ Some found
    → signed read (signed_decimal z) ≡ Some (signed_as z found)
signed-decimal read (pos n) found fits is = rw (no_minus n fits) (ap (option_map pos) is)
signed-decimal read (negsuc n) found fits is = ap (option_map (λ number. neg_ℤ (pos number))) is

pub raw-decimal : (z : ℤ) → nat_abs z < 10 ^ raw_digits → raw (signed_decimal z) ≡ Some z
raw-decimal z below =
    signed-decimal (digits raw_digits) z (nat_abs z) (omega (arith, below)) (digits-decimal raw_digits (nat_abs z) (omega arith) (omega arith) below)
    ∙ ap Some (signed_as-same z)

pub units-decimal : (places : ℕ) (z : ℤ) → nat_abs z < 10 ^ whole_digits → decimal_units places (signed_decimal z) ≡ Some (z *ℤ pos (10 ^ places))
units-decimal places z below =
    let fits : nat_abs z < 2 ^ 64 = omega (arith, below) in
    signed-decimal (λ text. units places text (split_at 46 text)) z (nat_abs z * 10 ^ places) fits
    (ap (units places (decimal (nat_abs z))) (no_point (nat_abs z) fits)
    ∙ ap (option_map (λ whole. whole * 10 ^ places)) (digits-decimal whole_digits (nat_abs z) (omega arith) (omega arith) below))
    ∙ ap Some (signed_as-times z (10 ^ places))

-- The block that a line asks for.

abbrev is_space : ℕ → Bool
is_space byte = byte == 32

split_config : (digits : List ℕ) → split_space (codes "config " ++ digits) ≡ Some (codes "config", digits)
split_config digits =
    ap (λ (test : Bool). option_map (λ (at : ℕ). (take at (codes "config " ++ digits), drop (at + 1) (codes "config " ++ digits))) (cond test (Some 6) None))
    (lt-ltb 6 (length (codes "config " ++ digits)) (omega arith))

-- a line of the form
pub asks_for : (line digits : List ℕ) → line ≡ codes "config " ++ digits → block_size line ≡ number digits
unfolding block_size
asks_for line digits is = ap (λ (bytes : List ℕ). option_and_then size_of (split_space bytes)) is ∙ ap (option_and_then size_of) (split_config digits)

parts_at : (line : List ℕ) (at : ℕ) → position is_space line ≡ Some at → line ≡ take at line ++ 32 ∷ drop (at + 1) line
parts_at line at is =
    let found = position-Some is_space line at 0 is in
    let next : at + 1 ≡ suc at = omega arith in
    sym (take-append-drop at line)
    ∙ ap (λ (rest : List ℕ). take at line ++ rest)
    (drop-cons line at 0 found.0 ∙ ap (λ (b : ℕ). b ∷ drop (suc at) line) (eqb-true (slice_index line at) 32 found.1))
    ∙ ap (λ (n : ℕ). take at line ++ 32 ∷ drop n line) (sym next)

none_named : (first rest line : List ℕ) (test : Bool) → bytes_eq first (codes "config") ≡ test → line ≡ first ++ 32 ∷ rest
    → ((digits : List ℕ) → line ≢ codes "config " ++ digits) → cond test (number rest) None ≡ None
none_named first rest line true is parts other =
    let config : first ≡ codes "config" = (bytes_eq-Decides first (codes "config")).0 is in
    absurd (other rest (parts ∙ ap (λ (word : List ℕ). word ++ 32 ∷ rest) config))
none_named first rest line false is parts other = refl

none_at : (line : List ℕ) (place : Option ℕ) → position is_space line ≡ place → ((digits : List ℕ) → line ≢ codes "config " ++ digits)
    → option_and_then size_of (option_map (λ (at : ℕ). (take at line, drop (at + 1) line)) place) ≡ None
none_at line None is other = refl
none_at line (Some at) is other =
    none_named (take at line) (drop (at + 1) line) line (bytes_eq (take at line) (codes "config")) refl (parts_at line at is) other

-- any other line
pub asks_for_none : (line : List ℕ) → ((digits : List ℕ) → line ≢ codes "config " ++ digits) → block_size line ≡ None
unfolding block_size
asks_for_none line other = none_at line (position is_space line) refl other

-- a line that begins with another byte than c (99) asks for no block
pub asks_none : (line : List ℕ) → slice_index line 0 ≢ 99 → block_size line ≡ None
asks_none line other = asks_for_none line (λ digits is. other (ap (λ (xs : List ℕ). slice_index xs 0) is))
