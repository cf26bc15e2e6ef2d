-- Readings from behind: the digits at the end of a text, and what stands before them.
use Rattle.std.proofs.Common.{◌≡◌, ◌≢◌, ◌∙◌, refl, sym, ap, subst, ℕ, zero, suc, ◌+◌, ◌-◌, ◌*◌, ◌^◌, ◌<◌, ◌≤◌}
use Rattle.std.proofs.Common.{cond, Bool, true, false, List, [], ◌∷◌, ◌++◌, length, get_or, take, drop}
use Rattle.std.proofs.Common.{arith, length-append, length-drop}
use Rattle.std.specs.Prelude.{◌==◌, ◌&&◌, fold, Option, Some, None, option_map, option_and_then, ℤ, pos, neg_ℤ, nat_lt, nat_le}
use Rattle.std.specs.List.{list_all}
use Rattle.std.specs.Str.Parse.{starts_with_minus}
use Rattle.std.proofs.Math.Nat.{pow-zero, pow-succ', mul-le-mul_left}
use Rattle.std.proofs.lemmas.Bool.{lt-ltb, le-leb, lt-leb, eq-eqb, ne_eqb, eqb-true, eqb-false}
use Rattle.std.proofs.lemmas.List.{get_or-append-add, get_or-drop, get_or-take, take-take, drop-drop, take_all, length-take-le, drop_more, drop_all}
use Rattle.std.proofs.lemmas.List.Folds.{list_all_at}
use Rattle.bmc_text.proofs.Powers.{power_le}
use Rattle.bmc_text.specs.Words.{is_digit, with_digit, digits, raw, raw_digits}
use Rattle.bmc_script.specs.Commands.{split_last_space}
use Rattle.bmc_script.specs.Readings.{reading_parts, EndsInDigits}
use Rattle.bmc_script.proofs.NamesLemmas.{HasNoSpace, last_at, last_none, last_parts}

-- digits behind a number that is read
fold_from : (first : ℕ) (bytes : List ℕ) → fold with_digit first bytes ≡ first * 10 ^ length bytes + fold with_digit 0 bytes
fold_from first [] = omega (arith, ap (λ (power : ℕ). first * power) (pow-zero 10))
fold_from first (byte ∷ bytes) =
    omega (
      arith,
      fold_from (10 * first + (byte - 48)) bytes,
      fold_from (10 * 0 + (byte - 48)) bytes,
      ap (λ (power : ℕ). first * power) (pow-succ' 10 (length bytes)),
    )

-- from here on a text has digits of this number, 18 at the most, and this is what a digit before them counts
pub record IsReadFrom (text : List ℕ) (at number unit : ℕ) : Type 0 where
  pub within : at ≤ length text
  pub few : length text ≤ at + raw_digits
  pub digits : list_all is_digit (drop at text) ≡ true
  pub value : number ≡ fold with_digit 0 (drop at text)
  pub below : number < unit
  pub unit_is : unit ≡ 10 ^ length (drop at text)

pub nothing_read : (text : List ℕ) → IsReadFrom text (length text) 0 1
nothing_read text =
    let none : drop (length text) text ≡ [] = drop_all (length text) text (omega arith) in
    record {
      within = omega arith;
      few = omega arith;
      digits = ap (list_all is_digit) none;
      value = sym (ap (fold with_digit 0) none);
      below = omega arith;
      unit_is = sym (ap (λ (rest : List ℕ). 10 ^ length rest) none ∙ pow-zero 10);
    }

-- a digit in front of digits that are read
pub one_more : (text : List ℕ) (at number unit digit : ℕ) → IsReadFrom text at number unit → 1 ≤ at → length text < at + raw_digits
    → is_digit (get_or text (at - 1) 0) ≡ true → digit ≡ get_or text (at - 1) 0 - 48 → digit ≤ 9
    → IsReadFrom text (at - 1) (number + unit * digit) (unit * 10)
one_more text at number unit digit read some few is_one is small =
    let byte = get_or text (at - 1) 0 in
    let behind = drop at text in
    let next : at - 1 + 1 ≡ at = omega arith in
    let rest : drop (at - 1) text ≡ byte ∷ behind =
    drop_more text (at - 1) 0 (omega (arith, read.within)) ∙ ap (λ (n : ℕ). byte ∷ drop n text) next in
    let product : unit * digit ≡ 10 ^ length behind * digit = ap (λ (power : ℕ). power * digit) read.unit_is in
    let weight : (10 * 0 + (byte - 48)) * 10 ^ length behind ≡ digit * 10 ^ length behind = ap (λ (n : ℕ). n * 10 ^ length behind) (omega (arith, is)) in
    let at_most : unit * digit ≤ unit * 9 = mul-le-mul_left unit small in
    record {
      within = omega (arith, read.within);
      few = omega (arith, few);
      digits = ap (list_all is_digit) rest ∙ rw (is_one, read.digits) refl;
      value = omega (arith, read.value, product, weight, fold_from (10 * 0 + (byte - 48)) behind) ∙ sym (ap (fold with_digit 0) rest);
      below = omega (arith, read.below, at_most);
      unit_is = omega (arith, read.unit_is, pow-succ' 10 (length behind)) ∙ sym (ap (λ (all : List ℕ). 10 ^ length all) rest);
    }

-- the power of ten of 17 digits at the most
pub unit_small : (text : List ℕ) (at number unit : ℕ) → IsReadFrom text at number unit → length text < at + raw_digits → unit ≤ 10 ^ 17
unit_small text at number unit read few =
    omega (arith, read.unit_is, power_le (length (drop at text)) 17 (omega (arith, length-drop at text)))

pub number_small : (text : List ℕ) (at number unit : ℕ) → IsReadFrom text at number unit → number < 10 ^ raw_digits
number_small text at number unit read =
    omega (arith, read.below, read.unit_is, power_le (length (drop at text)) raw_digits (omega (arith, length-drop at text, read.few, read.within)))

-- A text at its last space.

front_clean : (byte : ℕ) (rest : List ℕ) → byte ≢ 32 → HasNoSpace rest → HasNoSpace (byte ∷ rest)
front_clean byte rest other clean zero within = other
front_clean byte rest other clean (suc k) within = clean k (omega (arith, within))

-- what holds of bytes without a space, and of bytes at their last space, holds of all
by_last_space : (P : List ℕ → Type 0) → ((bytes : List ℕ) → HasNoSpace bytes → P bytes)
    → ((name word : List ℕ) → HasNoSpace word → P (name ++ 32 ∷ word)) → (bytes : List ℕ) → P bytes
by_last_space P none last [] = none [] (λ k within. absurd (omega arith))
by_last_space P none last (byte ∷ rest) =
    by_last_space (λ (rest : List ℕ). P (byte ∷ rest)) (of (byte == 32) refl) (λ name word. last (byte ∷ name) word) rest
  where
    of : (test : Bool) → (byte == 32) ≡ test → (rest : List ℕ) → HasNoSpace rest → P (byte ∷ rest)
    of true is rest clean = subst (λ (b : ℕ). P (b ∷ rest)) (sym (eqb-true byte 32 is)) (last [] rest clean)
    of false is rest clean = none (byte ∷ rest) (front_clean byte rest (eqb-false byte 32 is) clean)

abbrev raw_behind : Option (List ℕ × List ℕ) → Option (List ℕ × ℤ)
raw_behind split = option_and_then (λ parts. option_map (λ number. (parts.0, number)) (raw parts.1)) split

-- no reading, where no word behind a last space is a raw reading
none_by : (text : List ℕ) → ((name word : List ℕ) → text ≡ name ++ 32 ∷ word → HasNoSpace word → raw word ≡ None) → reading_parts text ≡ None
none_by text each =
    by_last_space (λ (bytes : List ℕ). text ≡ bytes → reading_parts text ≡ None)
    (λ bytes clean is. ap raw_behind (ap split_last_space is ∙ last_none bytes clean))
    (λ name word clean is. ap raw_behind (ap split_last_space is ∙ last_parts name word clean)
    ∙ ap (option_map (λ (number : ℤ). (name, number))) (each name word is clean))
    text refl

-- Words that are no raw readings.

bad_digit : (bytes : List ℕ) (at : ℕ) → at < length bytes → is_digit (get_or bytes at 0) ≡ false → digits raw_digits bytes ≡ None
unfolding digits
bad_digit bytes at within bad = rw (list_all_at is_digit bytes at 0 within bad) (of (nat_lt 0 (length bytes)) (nat_le (length bytes) raw_digits))
  where
    of : (one two : Bool) → cond (one && two && false) (Some (fold with_digit 0 bytes)) None ≡ None
    of false two = refl
    of true false = refl
    of true true = refl

many_digits : (bytes : List ℕ) → raw_digits < length bytes → digits raw_digits bytes ≡ None
unfolding digits
many_digits bytes many = rw (lt-leb (length bytes) raw_digits many) (of (nat_lt 0 (length bytes)))
  where
    of : (one : Bool) → cond (one && false && list_all is_digit bytes) (Some (fold with_digit 0 bytes)) None ≡ None
    of false = refl
    of true = refl

no_digits : (bytes : List ℕ) → length bytes ≡ 0 → digits raw_digits bytes ≡ None
unfolding digits
no_digits [] none = refl
no_digits (byte ∷ bytes) none = absurd (omega (arith, none))

raw_minus : (word : List ℕ) → get_or word 0 0 ≡ 45 → raw word ≡ option_map (λ number. neg_ℤ (pos number)) (digits raw_digits (drop 1 word))
raw_minus word is = rw (eq-eqb (get_or word 0 0) 45 is) refl

raw_plain : (word : List ℕ) → get_or word 0 0 ≢ 45 → raw word ≡ option_map pos (digits raw_digits word)
raw_plain word other = rw (ne_eqb (get_or word 0 0) 45 other) refl

raw_none : (word : List ℕ) → (get_or word 0 0 ≡ 45 → digits raw_digits (drop 1 word) ≡ None) → (get_or word 0 0 ≢ 45 → digits raw_digits word ≡ None)
    → raw word ≡ None
raw_none word minus plain = of (get_or word 0 0 == 45) refl
  where
    of : (test : Bool) → (get_or word 0 0 == 45) ≡ test → raw word ≡ None
    of true is =
        let first = eqb-true (get_or word 0 0) 45 is in
        raw_minus word first ∙ ap (option_map (λ number. neg_ℤ (pos number))) (minus first)
    of false is =
        let first = eqb-false (get_or word 0 0) 45 is in
        raw_plain word first ∙ ap (option_map pos) (plain first)

-- a word with a byte that is no digit, and is not the sign of others
bad_word : (word : List ℕ) (at : ℕ) → at < length word → is_digit (get_or word at 0) ≡ false → (at ≡ 0 → get_or word 0 0 ≡ 45 → length word ≡ 1)
    → raw word ≡ None
bad_word word zero within bad alone =
    raw_none word (λ first. no_digits (drop 1 word) (omega (arith, length-drop 1 word, alone refl first))) (λ first. bad_digit word 0 within bad)
bad_word word (suc k) within bad alone =
    raw_none word
    (λ first. bad_digit (drop 1 word) k (omega (arith, length-drop 1 word, within))
    (ap is_digit (get_or-drop 1 word k 0 ∙ ap (λ (at : ℕ). get_or word at 0) (omega arith)) ∙ bad))
    (λ first. bad_digit word (suc k) within bad)

-- a word with too many digits
long_word : (word : List ℕ) → 19 ≤ length word → (length word ≡ 19 → get_or word 0 0 ≢ 45) → raw word ≡ None
long_word word long first =
    raw_none word
    (λ minus. let longer : length word ≢ 19 = λ nineteen. first nineteen minus in
    many_digits (drop 1 word) (omega (arith, length-drop 1 word, long, longer)))
    (λ plain. many_digits word (omega (arith, long)))

-- Texts that end in digits.

-- a byte behind the space at which a text is split
byte_of : (text name word : List ℕ) (at : ℕ) → text ≡ name ++ 32 ∷ word → get_or text (length name + suc at) 0 ≡ get_or word at 0
byte_of text name word at is = ap (λ (bytes : List ℕ). get_or bytes (length name + suc at) 0) is ∙ get_or-append-add name (32 ∷ word) (suc at) 0

split_length : (text name word : List ℕ) → text ≡ name ++ 32 ∷ word → length text ≡ length name + suc (length word)
split_length text name word is = ap length is ∙ length-append name (32 ∷ word)

split_byte : (text name word : List ℕ) → text ≡ name ++ 32 ∷ word → get_or text (length name) 0 ≡ 32
split_byte text name word is =
    ap (λ (at : ℕ). get_or text at 0) (omega arith) ∙ ap (λ (bytes : List ℕ). get_or bytes (length name + 0) 0) is ∙ get_or-append-add name (32 ∷ word) 0 0

-- digits have no sign and no space among them
no_digit_is : (text : List ℕ) (from at byte : ℕ) → list_all is_digit (drop from text) ≡ true → from ≤ at → at < length text → is_digit byte ≡ false
    → get_or text at 0 ≢ byte
no_digit_is text from at byte all behind within other is =
    let here : get_or (drop from text) (at - from) 0 ≡ byte =
    get_or-drop from text (at - from) 0 ∙ ap (λ (k : ℕ). get_or text k 0) (omega (arith, behind)) ∙ is in
    absurd (true_not_false (sym all ∙ list_all_at is_digit (drop from text) (at - from) 0 (omega (arith, length-drop from text, behind, within))
    (ap is_digit here ∙ other)))
  where
    true_not_false : true ≡ false → ⊥
    true_not_false is = cc

-- a text that ends in a byte that is no digit
pub no_digit_last : (text : List ℕ) → (0 < length text → is_digit (get_or text (length text - 1) 0) ≡ false) → reading_parts text ≡ None
no_digit_last text other =
    none_by text λ name word is clean. of name word is (split_length text name word is)
  where
    of : (name word : List ℕ) → text ≡ name ++ 32 ∷ word → length text ≡ length name + suc (length word) → raw word ≡ None
    of name [] is long = raw_none [] (λ minus. no_digits [] refl) (λ plain. no_digits [] refl)
    of name (first ∷ rest) is long =
        bad_word (first ∷ rest) (length rest) (omega arith)
        (ap is_digit (sym (byte_of text name (first ∷ rest) (length rest) is) ∙ ap (λ (at : ℕ). get_or text at 0) (omega (arith, long)))
        ∙ other (omega (arith, long)))
        (λ start minus. omega (arith, start))

-- a text that ends in more digits than a raw reading has
pub too_many : (text : List ℕ) (from : ℕ) → list_all is_digit (drop from text) ≡ true → length text ≡ from + 19 → reading_parts text ≡ None
too_many text from all long =
    none_by text λ name word is clean.
    let before : length name < from = omega (arith, long, split_length text name word is, inside name word is) in
    long_word word (omega (arith, long, split_length text name word is, before))
    (λ nineteen minus. no_digit_is text from (length name + 1) 45 all (omega (arith, long, split_length text name word is, before, nineteen))
    (omega (arith, split_length text name word is, nineteen)) refl
    (ap (λ (at : ℕ). get_or text at 0) (omega arith) ∙ byte_of text name word 0 is ∙ minus))
  where
    inside : (name word : List ℕ) → text ≡ name ++ 32 ∷ word → length name < from
    inside name word is = by_order (length name) from (λ behind.
        no_digit_is text from (length name) 32 all behind (omega (arith, split_length text name word is)) refl (split_byte text name word is))
      where
        by_order : (n m : ℕ) → (m ≤ n → ⊥) → n < m
        by_order n m other = omega (arith, other)

-- The front that a text is cut down to.

front_byte : (text front : List ℕ) → front ≡ take (length front) text → (at : ℕ) → at < length front → get_or front at 0 ≡ get_or text at 0
front_byte text front whole at within =
    ap (λ (bytes : List ℕ). get_or bytes at 0) whole ∙ get_or-take (length front) text at 0 within

-- a front with a byte less
pub shorter : (text front : List ℕ) → front ≡ take (length front) text → take (length front - 1) front ≡ take (length (take (length front - 1) front)) text
shorter text front whole =
    let long : length (take (length front - 1) front) ≡ length front - 1 = length-take-le (length front - 1) front (omega arith) in
    ap (take (length front - 1)) whole ∙ take-take (length front - 1) (length front) text (omega arith) ∙ ap (λ (n : ℕ). take n text) (sym long)

pub one_digit_more : (text front : List ℕ) (number unit digit : ℕ) → front ≡ take (length front) text → IsReadFrom text (length front) number unit
    → 1 ≤ length front → length text < length front + raw_digits → is_digit (get_or front (length front - 1) 0) ≡ true
    → digit ≡ get_or front (length front - 1) 0 - 48 → digit ≤ 9
    → IsReadFrom text (length (take (length front - 1) front)) (number + unit * digit) (unit * 10)
one_digit_more text front number unit digit whole read some few is_one is small =
    let byte = front_byte text front whole (length front - 1) (omega arith) in
    subst (λ (at : ℕ). IsReadFrom text at (number + unit * digit) (unit * 10)) (sym (length-take-le (length front - 1) front (omega arith)))
    (one_more text (length front) number unit digit read some few (ap is_digit (sym byte) ∙ is_one) (is ∙ ap (λ (b : ℕ). b - 48) byte) small)

pub is_one : (byte : ℕ) → 48 ≤ byte → byte ≤ 57 → is_digit byte ≡ true
is_one byte low high = rw (le-leb 48 byte low, le-leb byte 57 high) refl

-- one digit more than a raw reading has
pub one_too_many : (text front : List ℕ) (number unit : ℕ) → front ≡ take (length front) text → IsReadFrom text (length front) number unit
    → 1 ≤ length front → length front + raw_digits ≤ length text → is_digit (get_or front (length front - 1) 0) ≡ true → reading_parts text ≡ None
one_too_many text front number unit whole read some many is =
    let at = length front - 1 in
    let next : at + 1 ≡ length front = omega (arith, some) in
    let rest : drop at text ≡ get_or text at 0 ∷ drop (length front) text =
    drop_more text at 0 (omega (arith, some, many)) ∙ ap (λ (n : ℕ). get_or text at 0 ∷ drop n text) next in
    too_many text at
    (ap (list_all is_digit) rest ∙ rw (ap is_digit (sym (front_byte text front whole at (omega (arith, some)))) ∙ is, read.digits) refl)
    (omega (arith, some, many, read.few))

-- a text of which nothing is read
pub none_read : (text front : List ℕ) → front ≡ take (length front) text → length front ≡ length text
    → (0 < length front → is_digit (get_or front (length front - 1) 0) ≡ false) → reading_parts text ≡ None
none_read text front whole long other =
    let same : front ≡ text = whole ∙ take_all (length front) text (omega (arith, long)) in
    no_digit_last text (subst (λ (bytes : List ℕ). 0 < length bytes → is_digit (get_or bytes (length bytes - 1) 0) ≡ false) same other)

-- Readings at the last space.

digits_is : (bytes : List ℕ) → list_all is_digit bytes ≡ true → 0 < length bytes → length bytes ≤ raw_digits
    → digits raw_digits bytes ≡ Some (fold with_digit 0 bytes)
unfolding digits
digits_is bytes all some few = rw (lt-ltb 0 (length bytes) some, le-leb (length bytes) raw_digits few, all) refl

-- the digits behind a front
front_digits : (text front : List ℕ) (number : ℕ) → EndsInDigits text front number → digits raw_digits (drop (length front) text) ≡ Some number
front_digits text front number ends =
    digits_is (drop (length front) text) ends.digits (omega (arith, length-drop (length front) text, ends.some))
    (omega (arith, length-drop (length front) text, ends.few)) ∙ ap Some (sym ends.value_is)

-- a byte behind a front
digit_behind : (text front : List ℕ) (number : ℕ) → EndsInDigits text front number → (at byte : ℕ) → is_digit byte ≡ false → length front ≤ at
    → at < length text → get_or text at 0 ≢ byte
digit_behind text front number ends at byte other behind within = no_digit_is text (length front) at byte ends.digits behind within other

-- a reading whose last space is here
parts_of : (text front : List ℕ) (number : ℕ) → EndsInDigits text front number → (at : ℕ) (z : ℤ) → at ≤ length front
    → split_last_space text ≡ Some (take at text, drop (at + 1) text) → raw (drop (at + 1) text) ≡ Some z → reading_parts text ≡ Some (take at front, z)
parts_of text front number ends at z within parts is =
    ap raw_behind parts ∙ ap (option_map (λ (number : ℤ). (take at text, number))) is
    ∙ ap (λ (name : List ℕ). Some (name, z)) (sym (ap (take at) ends.whole ∙ take-take at (length front) text within))

-- digits right behind a space
pub plain_reading : (text front : List ℕ) (number : ℕ) → EndsInDigits text front number → 1 ≤ length front → get_or front (length front - 1) 0 ≡ 32
    → reading_parts text ≡ Some (take (length front - 1) front, pos number)
plain_reading text front number ends some space =
    let at = length front - 1 in
    let next : length front ≡ at + 1 = omega (arith, some) in
    let split = last_at text at (omega (arith, ends.some)) (sym (front_byte text front ends.whole at (omega (arith, some))) ∙ space)
    (λ k from within. digit_behind text front number ends k 32 refl (omega (arith, from, next)) within) in
    let first : get_or (drop (length front) text) 0 0 ≢ 45 = λ is.
    digit_behind text front number ends (length front + 0) 45 refl (omega arith) (omega (arith, ends.some)) (sym (get_or-drop (length front) text 0 0) ∙ is) in
    let is : raw (drop (length front) text) ≡ Some (pos number) =
    raw_plain (drop (length front) text) first ∙ ap (option_map pos) (front_digits text front number ends) in
    parts_of text front number ends at (pos number) (omega arith) split (subst (λ (n : ℕ). raw (drop n text) ≡ Some (pos number)) next is)

-- behind a space there are a sign and digits
no_space_behind : (text front : List ℕ) (number : ℕ) → EndsInDigits text front number → 2 ≤ length front → get_or text (length front - 1) 0 ≡ 45
    → (k : ℕ) → length front - 1 ≤ k → k < length text → get_or text k 0 ≢ 32
no_space_behind text front number ends two sign k from within = of (k == (length front - 1)) refl
  where
    of : (test : Bool) → (k == (length front - 1)) ≡ test → get_or text k 0 ≢ 32
    of true is space =
        let at : k ≡ length front - 1 = eqb-true k (length front - 1) is in
        let both : 45 ≡ 32 = sym sign ∙ ap (λ (n : ℕ). get_or text n 0) (sym at) ∙ space in
        absurd (omega (arith, both))
    of false is space =
        digit_behind text front number ends k 32 refl (omega (arith, from, eqb-false k (length front - 1) is)) within space

-- digits behind a space and a sign
pub minus_reading : (text front : List ℕ) (number : ℕ) → EndsInDigits text front number → 2 ≤ length front → get_or front (length front - 2) 0 ≡ 32
    → get_or front (length front - 1) 0 ≡ 45 → reading_parts text ≡ Some (take (length front - 2) front, neg_ℤ (pos number))
minus_reading text front number ends two space minus =
    let at = length front - 2 in
    let word = drop (at + 1) text in
    let sign : get_or text (length front - 1) 0 ≡ 45 =
    sym (front_byte text front ends.whole (length front - 1) (omega (arith, two))) ∙ minus in
    let split = last_at text at (omega (arith, ends.some)) (sym (front_byte text front ends.whole at (omega (arith, two))) ∙ space)
    (λ k from within. no_space_behind text front number ends two sign k (omega (arith, from, two)) within) in
    let first : get_or word 0 0 ≡ 45 = get_or-drop (at + 1) text 0 0 ∙ ap (λ (k : ℕ). get_or text k 0) (omega (arith, two)) ∙ sign in
    let rest : drop 1 word ≡ drop (length front) text = drop-drop 1 (at + 1) text ∙ ap (λ (n : ℕ). drop n text) (omega (arith, two)) in
    let number_of : digits raw_digits (drop 1 word) ≡ Some number = ap (digits raw_digits) rest ∙ front_digits text front number ends in
    parts_of text front number ends at (neg_ℤ (pos number)) (omega arith) split
    (raw_minus word first ∙ ap (option_map (λ number. neg_ℤ (pos number))) number_of)

-- what stands before the digits is no space, and no sign behind a space
pub no_reading : (text front : List ℕ) (number : ℕ) → EndsInDigits text front number → (1 ≤ length front → get_or front (length front - 1) 0 ≢ 32)
    → (2 ≤ length front → get_or front (length front - 2) 0 ≡ 32 → get_or front (length front - 1) 0 ≢ 45) → reading_parts text ≡ None
no_reading text front number ends no_space no_sign =
    none_by text λ name word is clean.
    let long = split_length text name word is in
    let before : length name < length front = by_order (length name) (length front) (λ behind.
    digit_behind text front number ends (length name) 32 refl behind (omega (arith, long)) (split_byte text name word is)) in
    let apart : length name ≢ length front - 1 = λ last. no_space (omega (arith, before))
    (front_byte text front ends.whole (length front - 1) (omega (arith, before)) ∙ ap (λ (n : ℕ). get_or text n 0) (sym last) ∙ split_byte text name word is) in
    let at = length front - 2 - length name in
    let here : length name + suc at ≡ length front - 1 = omega (arith, before, apart) in
    let byte : get_or word at 0 ≡ get_or front (length front - 1) 0 =
    sym (byte_of text name word at is) ∙ ap (λ (n : ℕ). get_or text n 0) here
    ∙ sym (front_byte text front ends.whole (length front - 1) (omega (arith, before))) in
    bad_word word at (omega (arith, long, before, apart, ends.some)) (ap is_digit byte ∙ ends.other (omega (arith, before)))
    (λ start minus. absurd (no_sign (omega (arith, before, apart))
    (front_byte text front ends.whole (length front - 2) (omega (arith, before, apart)) ∙ ap (λ (n : ℕ). get_or text n 0) (omega (arith, start, before, apart))
    ∙ split_byte text name word is)
    (sym byte ∙ ap (λ (n : ℕ). get_or word n 0) start ∙ minus)))
  where
    by_order : (n m : ℕ) → (m ≤ n → ⊥) → n < m
    by_order n m other = omega (arith, other)
