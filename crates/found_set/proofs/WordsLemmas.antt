-- Marks that are the bits of words.
use Rattle.std.proofs.Common.{◌≡◌, ◌≢◌, ◌⊎◌, ◌∙◌, ℕ, zero, suc, ◌+◌, ◌-◌, ◌*◌, ◌/◌, ◌%◌, ◌^◌, ◌<◌, ◌≤◌, ◌==◌, eqb, Bool, true, false, not, ◌&&◌, ◌||◌}
use Rattle.std.proofs.Common.{List, [], ◌∷◌, length, get_or, set, replicate, refl, ap, ap₂, sym, arith, inl, inr, max, min, bit_and, bit_or, bit_xor}
use Rattle.std.specs.Int.{bit_at}
use Rattle.std.proofs.lemmas.Nat.Bits.{bit_at-zero, bit_at-lt, bit_at-pow_same, bit_at-pow_other, bit_at_or, bit_at_and, bit_at_xor}
use Rattle.std.proofs.lemmas.Nat.Bits.{bit_at_ones, bit_at_ones_above}
use Rattle.std.proofs.lemmas.Nat.Bits.{bit_at_mask_inside, bit_at_mask_below}
use Rattle.std.proofs.lemmas.List.{get_or_past, get_or-set_other, get_or-set_same, get_or-replicate, length-set, set-get_or, ext_get_or}
use Rattle.std.proofs.lemmas.List.FromFn.{get_or-map-range_with_len, length-map-range_with_len}
use Rattle.std.proofs.lemmas.Nat.{one_shl}
use Rattle.std.proofs.lemmas.Bool.{cases_lt}
use Rattle.std.proofs.lemmas.Bool.Decides.{nat_tests, eqb_tells}
use Rattle.std.proofs.Math.Bool.{beq, or-true, or-false}
use Rattle.found_set.specs.Marks.{is_marked, is_set, marks, AreMarked}
use Rattle.found_set.specs.Found.{is_root}

pub count_is : (words : List ℕ) → length (marks (is_set words)) ≡ 256
count_is words = length-map-range_with_len (is_set words) 0 256

pub marked_is : (words : List ℕ) (n : ℕ) → n < 256 → is_marked (marks (is_set words)) n ≡ is_set words n
marked_is words n small = get_or-map-range_with_len (is_set words) 0 256 n n false small (omega arith)

pub none_past : (words : List ℕ) (n : ℕ) → 256 ≤ n → is_marked (marks (is_set words)) n ≡ false
none_past words n past = get_or_past (marks (is_set words)) n false (omega (arith, count_is words))

-- all bits
pub all_set : (n : ℕ) → n < 256 → is_set (replicate 4 18446744073709551615) n ≡ true
all_set n small =
    let at : get_or (replicate 4 18446744073709551615) (n / 64) 0 ≡ 18446744073709551615 =
    get_or-replicate 4 (n / 64) 18446744073709551615 0 (omega (arith, small)) in
    let one : bit_at 18446744073709551615 (n % 64) ≡ 1 = bit_at_ones 64 (n % 64) (omega arith) in
    ap (λ (word : ℕ). bit_at word (n % 64) == 1) at ∙ ap (λ (bit : ℕ). bit == 1) one

-- the bits of the root buses
abbrev blank : List ℕ
blank = 0 ∷ 0 ∷ 0 ∷ []

zeros : (k : ℕ) → get_or blank k 0 ≡ 0
zeros zero = refl
zeros (suc zero) = refl
zeros (suc (suc zero)) = refl
zeros (suc (suc (suc k))) = refl

later : (word k : ℕ) → get_or (word ∷ blank) (suc k) 0 ≡ get_or blank k 0
later word k = refl

in_first : (n : ℕ) → n < 64 → n / 64 ≡ 0
in_first n lt = omega (arith, lt)

in_later : (n : ℕ) → 64 ≤ n → n / 64 ≡ suc (n / 64 - 1)
in_later n le = omega (arith, le)

root_below : (n : ℕ) → n < 16 → is_root n ≡ true
root_below n lt = grind (arith, nat_tests)

no_root : (n : ℕ) → 16 ≤ n → is_root n ≡ false
no_root n le = grind (arith, nat_tests)

low : (n : ℕ) → n < 64 → (n < 16) ⊎ (16 ≤ n) → (bit_at 65535 n == 1) ≡ is_root n
low n lt (inl below) = ap (λ (bit : ℕ). bit == 1) (bit_at_ones 16 n below) ∙ sym (root_below n below)
low n lt (inr above) = ap (λ (bit : ℕ). bit == 1) (bit_at_ones_above 16 n above) ∙ sym (no_root n above)

roots_by : (n : ℕ) → (n < 64) ⊎ (64 ≤ n) → is_set (65535 ∷ 0 ∷ 0 ∷ 0 ∷ []) n ≡ is_root n
roots_by n (inl lt) =
    let rest : n % 64 ≡ n = omega (arith, lt) in
    ap₂ (λ (at bit : ℕ). bit_at (get_or (65535 ∷ 0 ∷ 0 ∷ 0 ∷ []) at 0) bit == 1) (in_first n lt) rest ∙ low n lt (cases_lt n 16)
roots_by n (inr le) =
    ap (λ (at : ℕ). bit_at (get_or (65535 ∷ blank) at 0) (n % 64) == 1) (in_later n le)
    ∙ ap (λ (word : ℕ). bit_at word (n % 64) == 1) (later 65535 (n / 64 - 1) ∙ zeros (n / 64 - 1))
    ∙ ap (λ (bit : ℕ). bit == 1) (bit_at-zero (n % 64)) ∙ sym (no_root n (omega (arith, le)))

pub roots_set : (n : ℕ) → is_set (65535 ∷ 0 ∷ 0 ∷ 0 ∷ []) n ≡ is_root n
roots_set n = roots_by n (cases_lt n 64)

-- all bits but those of the root buses
masked : (word n : ℕ) → n < 64 → (n < 16) ⊎ (16 ≤ n) → (bit_at (bit_and word 18446744073709486080) n == 1) ≡ (not (is_root n) && (bit_at word n == 1))
masked word n lt (inl below) =
    let none : bit_at (bit_and word 18446744073709486080) n ≡ 0 =
    bit_at_and word 18446744073709486080 n ∙ ap (min (bit_at word n)) (bit_at_mask_below 16 64 n below)
    ∙ omega arith in
    ap (λ (bit : ℕ). bit == 1) none ∙ ap (λ (root : Bool). not root && (bit_at word n == 1)) (sym (root_below n below))
masked word n lt (inr above) =
    let same : bit_at (bit_and word 18446744073709486080) n ≡ bit_at word n = bit_at_and word 18446744073709486080 n
    ∙ ap (min (bit_at word n)) (bit_at_mask_inside 16 64 n above lt) ∙ omega (arith, bit_at-lt word n) in
    ap (λ (bit : ℕ). bit == 1) same ∙ ap (λ (root : Bool). not root && (bit_at word n == 1)) (sym (no_root n above))

beyond_by : (words : List ℕ) (n : ℕ) → 0 < length words → (n < 64) ⊎ (64 ≤ n)
    → is_set (set words 0 (bit_and (get_or words 0 0) 18446744073709486080)) n ≡ (not (is_root n) && is_set words n)
beyond_by words n some (inl lt) =
    let rest : n % 64 ≡ n = omega (arith, lt) in
    let new = set words 0 (bit_and (get_or words 0 0) 18446744073709486080) in
    ap₂ (λ (at bit : ℕ). bit_at (get_or new at 0) bit == 1) (in_first n lt) rest
    ∙ ap (λ (word : ℕ). bit_at word n == 1) (get_or-set_same words 0 (bit_and (get_or words 0 0) 18446744073709486080) 0 some)
    ∙ masked (get_or words 0 0) n lt (cases_lt n 16)
    ∙ ap₂ (λ (at bit : ℕ). not (is_root n) && (bit_at (get_or words at 0) bit == 1)) (sym (in_first n lt)) (sym rest)
beyond_by words n some (inr le) =
    ap (λ (word : ℕ). bit_at word (n % 64) == 1)
    (get_or-set_other words 0 (n / 64) (bit_and (get_or words 0 0) 18446744073709486080) 0 (λ e. omega (arith, le, e)))
    ∙ ap (λ (root : Bool). not root && is_set words n) (sym (no_root n (omega (arith, le))))

pub beyond_set : (words : List ℕ) (n : ℕ) → 0 < length words
    → is_set (set words 0 (bit_and (get_or words 0 0) 18446744073709486080)) n ≡ (not (is_root n) && is_set words n)
beyond_set words n some = beyond_by words n some (cases_lt n 64)

-- one bit more
nat_same : (a b : ℕ) → a ≡ b → (a == b) ≡ true
nat_same a b same = by (eqb_tells a b)
  where
    by : ((eqb a b ≡ true) × (a ≡ b)) ⊎ ((eqb a b ≡ false) × (a ≢ b)) → (a == b) ≡ true
    by (inl (is, e)) = is
    by (inr (not_so, apart)) = absurd (apart same)

nat_apart : (a b : ℕ) → a ≢ b → (a == b) ≡ false
nat_apart a b apart = by (eqb_tells a b)
  where
    by : ((eqb a b ≡ true) × (a ≡ b)) ⊎ ((eqb a b ≡ false) × (a ≢ b)) → (a == b) ≡ false
    by (inl (is, e)) = absurd (apart e)
    by (inr (not_so, e)) = not_so

or_bit : (word k i : ℕ) → ((eqb k i ≡ true) × (k ≡ i)) ⊎ ((eqb k i ≡ false) × (k ≢ i))
    → (bit_at (bit_or word (2 ^ k)) i == 1) ≡ ((bit_at word i == 1) || k == i)
or_bit word k i (inl (is, same)) =
    let one : bit_at (bit_or word (2 ^ k)) i ≡ 1 =
    bit_at_or word (2 ^ k) i ∙ ap (max (bit_at word i)) (ap (bit_at (2 ^ k)) (sym same) ∙ bit_at-pow_same k) ∙ omega (arith, bit_at-lt word i) in
    ap (λ (bit : ℕ). bit == 1) one ∙ sym (or-true (bit_at word i == 1)) ∙ ap (λ (b : Bool). (bit_at word i == 1) || b) (sym (nat_same k i same))
or_bit word k i (inr (not_so, apart)) =
    let old : bit_at (bit_or word (2 ^ k)) i ≡ bit_at word i =
    bit_at_or word (2 ^ k) i ∙ ap (max (bit_at word i)) (bit_at-pow_other k i (λ e. apart (sym e))) ∙ omega arith in
    ap (λ (bit : ℕ). bit == 1) old ∙ sym (or-false (bit_at word i == 1)) ∙ ap (λ (b : Bool). (bit_at word i == 1) || b) (sym (nat_apart k i apart))

-- numbers whose words are the same are told apart by their places in it
rest_tells : (a b : ℕ) → a / 64 ≡ b / 64 → (a % 64 == b % 64) ≡ (a == b)
rest_tells a b words = by (eqb_tells a b)
  where
    by : ((eqb a b ≡ true) × (a ≡ b)) ⊎ ((eqb a b ≡ false) × (a ≢ b)) → (a % 64 == b % 64) ≡ (a == b)
    by (inl (is, same)) = nat_same (a % 64) (b % 64) (ap (λ (k : ℕ). k % 64) same) ∙ sym (nat_same a b same)
    by (inr (not_so, apart)) = nat_apart (a % 64) (b % 64) (λ e. apart (omega (arith, words, e))) ∙ sym (nat_apart a b apart)

more_by : (words : List ℕ) (number n : ℕ) → number / 64 < length words
    → ((eqb (n / 64) (number / 64) ≡ true) × (n / 64 ≡ number / 64)) ⊎ ((eqb (n / 64) (number / 64) ≡ false) × (n / 64 ≢ number / 64))
    → is_set (set words (number / 64) (bit_or (get_or words (number / 64) 0) (2 ^ (number % 64)))) n ≡ (is_set words n || number == n)
more_by words number n within (inl (is, same)) =
    let word = get_or words (number / 64) 0 in
    ap (λ (at : ℕ). bit_at (get_or (set words (number / 64) (bit_or word (2 ^ (number % 64)))) at 0) (n % 64) == 1) same
    ∙ ap (λ (w : ℕ). bit_at w (n % 64) == 1) (get_or-set_same words (number / 64) (bit_or word (2 ^ (number % 64))) 0 within)
    ∙ or_bit word (number % 64) (n % 64) (eqb_tells (number % 64) (n % 64))
    ∙ ap₂ (λ (at : ℕ) (b : Bool). (bit_at (get_or words at 0) (n % 64) == 1) || b) (sym same) (rest_tells number n (sym same))
more_by words number n within (inr (not_so, apart)) =
    ap (λ (w : ℕ). bit_at w (n % 64) == 1)
    (get_or-set_other words (number / 64) (n / 64) (bit_or (get_or words (number / 64) 0) (2 ^ (number % 64))) 0 apart)
    ∙ sym (or-false (is_set words n))
    ∙ ap (λ (b : Bool). is_set words n || b) (sym (nat_apart number n (λ e. apart (ap (λ (k : ℕ). k / 64) (sym e)))))

pub more_set : (words : List ℕ) (number n : ℕ) → number / 64 < length words
    → is_set (set words (number / 64) (bit_or (get_or words (number / 64) 0) ((1 * 2 ^ (number % 64)) % 18446744073709551616))) n
    ≡ (is_set words n || number == n)
more_set words number n within =
    ap (λ (bit : ℕ). is_set (set words (number / 64) (bit_or (get_or words (number / 64) 0) bit)) n) (one_shl (number % 64) 64 (omega arith))
    ∙ more_by words number n within (eqb_tells (n / 64) (number / 64))

-- a mark that is put where there was none
or_put : (old new : List Bool) (number n : ℕ) → number < length old → is_marked old number ≡ false
    → is_marked new n ≡ (is_marked old n || number == n) → ((eqb n number ≡ true) × (n ≡ number)) ⊎ ((eqb n number ≡ false) × (n ≢ number))
    → is_marked new n ≡ is_marked (set old number true) n
or_put old new number n within bare told (inl (is, same)) =
    told ∙ ap (λ (b : Bool). is_marked old n || b) (nat_same number n (sym same)) ∙ or-true (is_marked old n)
    ∙ sym (ap (is_marked (set old number true)) same ∙ get_or-set_same old number true false within)
or_put old new number n within bare told (inr (not_so, apart)) =
    told ∙ ap (λ (b : Bool). is_marked old n || b) (nat_apart number n (λ e. apart (sym e))) ∙ or-false (is_marked old n)
    ∙ sym (get_or-set_other old number n true false apart)

pub put_is : (old new : List Bool) (number : ℕ) → number < 256 → length old ≡ 256 → length new ≡ 256 → is_marked old number ≡ false
    → AreMarked new (λ n. is_marked old n || number == n) → new ≡ set old number true
put_is old new number small wide long bare told =
    ext_get_or false new (set old number true) (long ∙ sym (length-set old number true ∙ wide))
    (λ n lt. or_put old new number n (omega (arith, small, wide)) bare (told n (omega (arith, lt, long))) (eqb_tells n number))

pub bare_is : (old : List Bool) (number : ℕ) → is_marked old number ≡ false → old ≡ set old number false
bare_is old number bare = sym (ap (set old number) (sym bare) ∙ set-get_or old number false)

-- the bits of either word and not of both
abbrev pub apart_words : List ℕ → List ℕ → List ℕ
apart_words words others =
    bit_xor (get_or words 0 0) (get_or others 0 0)
    ∷ bit_xor (get_or words 1 0) (get_or others 1 0)
    ∷ bit_xor (get_or words 2 0) (get_or others 2 0)
    ∷ bit_xor (get_or words 3 0) (get_or others 3 0)
    ∷ []

apart_at : (words others : List ℕ) (k : ℕ) → k < 4 → get_or (apart_words words others) k 0 ≡ bit_xor (get_or words k 0) (get_or others k 0)
apart_at words others zero lt = refl
apart_at words others (suc zero) lt = refl
apart_at words others (suc (suc zero)) lt = refl
apart_at words others (suc (suc (suc zero))) lt = refl
apart_at words others (suc (suc (suc (suc k)))) lt = absurd (omega (arith, lt))

apart_bits : (bit other : ℕ) → bit < 2 → other < 2 → ((bit + other) % 2 == 1) ≡ not (beq (bit == 1) (other == 1))
apart_bits zero zero lt lt_other = refl
apart_bits zero (suc zero) lt lt_other = refl
apart_bits (suc zero) zero lt lt_other = refl
apart_bits (suc zero) (suc zero) lt lt_other = refl
apart_bits (suc (suc bit)) other lt lt_other = absurd (omega (arith, lt))
apart_bits zero (suc (suc other)) lt lt_other = absurd (omega (arith, lt_other))
apart_bits (suc zero) (suc (suc other)) lt lt_other = absurd (omega (arith, lt_other))

pub apart_set : (words others : List ℕ) (n : ℕ) → n < 256 → is_set (apart_words words others) n ≡ not (beq (is_set words n) (is_set others n))
apart_set words others n small =
    let word = get_or words (n / 64) 0 in
    let other = get_or others (n / 64) 0 in
    ap (λ (w : ℕ). bit_at w (n % 64) == 1) (apart_at words others (n / 64) (omega (arith, small)))
    ∙ ap (λ (bit : ℕ). bit == 1) (bit_at_xor word other (n % 64))
    ∙ apart_bits (bit_at word (n % 64)) (bit_at other (n % 64)) (bit_at-lt word (n % 64)) (bit_at-lt other (n % 64))
