-- Operations, one after the other.
use Rattle.std.proofs.Common.{◌≡◌, ℕ, ◌+◌, ◌-◌, ◌<◌, ◌≤◌, Bool, true, false, List, [], ◌∷◌, length, drop, take, get_or, Option, Some, None}
use Rattle.std.proofs.Common.{refl, ap, sym, ◌∙◌, ◌^◌, arith, cond, length-drop, lt-ltb}
use Rattle.std.specs.Prelude.{IsUtf8, nat_le, nat_lt, ◌==◌, ◌&&◌, ◌||◌, not, fold, map, slice_index, option_map, option_and_then, unwrap_or}
use Rattle.std.specs.Borrow.{Bor}
use Rattle.std.specs.Option.{MatchOption, is_some}
use Rattle.std.specs.List.{list_all, list_any, sum_by, prefix_len}
use Rattle.std.proofs.Math.Nat.{pow-le-pow_right}
use Rattle.std.proofs.lemmas.Bool.Decides.{nat_tests}
use Rattle.std.proofs.lemmas.Bool.{false≢true}
use Rattle.std.proofs.lemmas.List.{get_or-drop, get_or-take, take-take, length-take, drop-drop, get_or_past}
use Rattle.std.proofs.Math.Seq.{take-length}
use Rattle.std.proofs.lemmas.List.Sums.{sum_by-cons, prefix_len-le-length}
use Rattle.std.proofs.lemmas.Str.{IsUtf8-drop, IsCharBoundary-after_ascii}
use Rattle.std.proofs.lemmas.List.Folds.{list_all_at, length-prefix_len}
use Rattle.tmpl.specs.Chains.{chain}
use Rattle.tmpl.specs.Operations.{is_digit, with_digit, digits, operand_digits, operand, operator_of, operation_by, operation_at, operations_of, operations_len}
use Rattle.tmpl.specs.Operations.{computed, applied_all, divides_by_zero}
use Rattle.tmpl.specs.Stretches.{FindsOperation}
use Rattle.tmpl.specs.declared.operation.Operation.{Operation}
use Rattle.tmpl.specs.declared.operation.Operator.{Operator}
use Rattle.tmpl.proofs.ChainsLemmas.{chain_found, chain_end}

abbrev sum_len : List (Operation × ℕ) → ℕ
sum_len links = sum_by (λ (link : Operation × ℕ). link.1) links

sum_on : (a n b c r t : ℕ) → a ≡ n + b → b ≡ c → r + n ≡ t → a + r ≡ t + c
sum_on a n b c r t e f g = omega arith

pub operations_found : (text rest : List ℕ) (operation : Operation) → FindsOperation text operation rest → operations_of text ≡ operation ∷ operations_of rest
operations_found text rest operation (n, found, some, within, behind) =
    ap (map (λ (link : Operation × ℕ). link.0)) (chain_found operation_at text operation n found some within)
    ∙ ap (λ (xs : List ℕ). operation ∷ operations_of xs) (sym behind)

pub len_found : (text rest : List ℕ) (operation : Operation) → FindsOperation text operation rest
    → operations_len text + length rest ≡ length text + operations_len rest
len_found text rest operation (n, found, some, within, behind) =
    let next : sum_len (chain operation_at text) ≡ n + sum_len (chain operation_at (drop n text)) =
    ap sum_len (chain_found operation_at text operation n found some within)
    ∙ sum_by-cons (λ (link : Operation × ℕ). link.1) (operation, n) (chain operation_at (drop n text)) in
    let size : length rest + n ≡ length text = omega (arith, ap length behind, length-drop n text) in
    let later : sum_len (chain operation_at (drop n text)) ≡ sum_len (chain operation_at rest) =
    ap (λ (xs : List ℕ). sum_len (chain operation_at xs)) (sym behind) in
    sum_on (sum_len (chain operation_at text)) n (sum_len (chain operation_at (drop n text))) (sum_len (chain operation_at rest))
    (length rest) (length text) next later size

pub shorter_found : (text rest : List ℕ) (operation : Operation) → FindsOperation text operation rest → length rest < length text
shorter_found text rest operation (n, found, some, within, behind) = omega (arith, ap length behind, length-drop n text)

-- the rest is what is left behind the operation
pub behind_found : (text rest : List ℕ) (operation : Operation) → FindsOperation text operation rest → rest ≡ drop (length text - length rest) text
behind_found text rest operation (n, found, some, within, behind) =
    let size : n ≡ length text - length rest = omega (arith, ap length behind, length-drop n text) in
    behind ∙ ap (λ (k : ℕ). drop k text) size

pub operations_end : (text : List ℕ) → operation_at text ≡ None → operations_of text ≡ []
operations_end text none = ap (map (λ (link : Operation × ℕ). link.0)) (chain_end operation_at text none)

pub len_end : (text : List ℕ) → operation_at text ≡ None → operations_len text ≡ 0
len_end text none = ap (sum_by (λ (link : Operation × ℕ). link.1)) (chain_end operation_at text none)

-- what has so many digits has no more than it may have
pub below_power : (value n m : ℕ) → value < 10 ^ n → n ≤ m → value < 10 ^ m
below_power value n m below within = let more : 10 ^ n ≤ 10 ^ m = pow-le-pow_right {n = 10} (omega arith) {i = n} {j = m} within in omega (arith, more)

-- digits are ASCII
digits_end : (text : List ℕ) → 0 < length text → list_all is_digit text ≡ true → get_or text (length text - 1) 0 < 128
digits_end text some all = last (nat_lt (get_or text (length text - 1) 0) 128) refl
  where
    last : (b : Bool) → nat_lt (get_or text (length text - 1) 0) 128 ≡ b → get_or text (length text - 1) 0 < 128
    last true e = grind (arith, nat_tests, e)
    last false e =
        let other : is_digit (get_or text (length text - 1) 0) ≡ false = grind (arith, nat_tests, e) in
        absurd (false≢true (sym (list_all_at is_digit text (length text - 1) 0 (omega arith) other) ∙ all))

digits_parts : (most value : ℕ) (text : List ℕ) → digits most text ≡ Some value → (0 < length text) × (list_all is_digit text ≡ true)
unfolding digits
digits_parts most value text e = by (nat_le 1 (length text)) (nat_le (length text) most) (list_all is_digit text) refl refl e
  where
    by : (a b d : Bool) → nat_le 1 (length text) ≡ a → list_all is_digit text ≡ d → cond (a && b && d) (Some (fold with_digit 0 text)) None ≡ Some value
        → (0 < length text) × (list_all is_digit text ≡ true)
    by true true true some all e = (grind (arith, nat_tests, some), all)
    by true true false some all e = absurd (cc)
    by true false d some all e = absurd (cc)
    by false b d some all e = absurd (cc)

-- ---- the operation at the front of a text

operation_parts : (text : List ℕ) (operation : Operation) (n : ℕ) → operation_at text ≡ Some (operation, n)
    → (digits operand_digits (operand (drop 3 text)) ≡ Some operation.number) × (n ≡ 3 + length (operand (drop 3 text)))
unfolding operation_at
operation_parts text operation n found =
    by (slice_index text 0 == 32) (slice_index text 2 == 32) (operator_of (slice_index text 1)) (digits operand_digits (operand (drop 3 text))) refl found
  where
    by : (a b : Bool) (operator : Option Operator) (number : Option ℕ) → digits operand_digits (operand (drop 3 text)) ≡ number
        → cond (a && b) (option_and_then {U = Operation × ℕ}
        (λ operator. option_map (λ number. (record { operator = operator; number = number }, 3 + length (operand (drop 3 text)))) number) operator) None
        ≡ Some (operation, n)
        → (digits operand_digits (operand (drop 3 text)) ≡ Some operation.number) × (n ≡ 3 + length (operand (drop 3 text)))
    by true true (Some operator) (Some number) read e = (
      read ∙ ap (option_map (λ (link : Operation × ℕ). link.0.number)) e,
      sym (ap (λ (o : Option (Operation × ℕ)). unwrap_or (option_map (λ link. link.1) o) 0) e),
    )
    by true true (Some operator) None read e = absurd (cc)
    by true true None number read e = absurd (cc)
    by true false operator number read e = absurd (cc)
    by false b operator number read e = absurd (cc)

-- a digit of an operation stands behind its first three bytes
operand_at : (text : List ℕ) (k i : ℕ) → k < length (operand (drop 3 text)) → i ≡ 3 + k → get_or (operand (drop 3 text)) k 0 ≡ get_or text i 0
operand_at text k i below is =
    let p = prefix_len is_digit (take 5 (drop 3 text)) in
    let size : length (operand (drop 3 text)) ≡ p = length-prefix_len is_digit (take 5 (drop 3 text)) in
    let few : p ≤ 5 = omega (arith, prefix_len-le-length is_digit (take 5 (drop 3 text)), length-take 5 (drop 3 text)) in
    get_or-take p (take 5 (drop 3 text)) k 0 (omega (arith, size)) ∙ get_or-take 5 (drop 3 text) k 0 (omega (arith, size)) ∙ get_or-drop 3 text k 0
    ∙ ap (λ (j : ℕ). get_or text j 0) (sym is)

-- a text may be cut behind an operation
pub cut_found : (text rest : List ℕ) (operation : Operation) → FindsOperation text operation rest → IsUtf8 text → IsUtf8 rest
cut_found text rest operation (n, found, some, within, behind) utf8 =
    let parts = operation_parts text operation n found in
    let xs = operand (drop 3 text) in
    let ds = digits_parts operand_digits operation.number xs parts.0 in
    let last : get_or xs (length xs - 1) 0 < 128 = digits_end xs ds.0 ds.1 in
    let there : get_or xs (length xs - 1) 0 ≡ get_or text (n - 1) 0 =
    operand_at text (length xs - 1) (n - 1) (omega (arith, ds.0)) (omega (arith, parts.1, ds.0)) in
    let at : n ≡ (n - 1) + 1 = omega arith in
    rw (behind, at) (IsUtf8-drop text (n - 1 + 1) utf8 (IsCharBoundary-after_ascii text (n - 1) utf8 (omega arith) (omega (arith, last, there))))

pub operation_is : (text : List ℕ) (operator : Operator) (number : ℕ) → get_or text 0 0 ≡ 32 → get_or text 2 0 ≡ 32
    → operator_of (get_or text 1 0) ≡ Some operator → digits operand_digits (operand (drop 3 text)) ≡ Some number
    → operation_at text ≡ Some (record { operator = operator; number = number }, 3 + length (operand (drop 3 text)))
unfolding operation_at
operation_is text operator number first third sign read = rw (first, third, sign, read) refl

pub no_space : (text : List ℕ) → (get_or text 0 0 ≡ 32 → get_or text 2 0 ≡ 32 → ⊥) → operation_at text ≡ None
unfolding operation_at
no_space text other = by (get_or text 0 0 == 32) (get_or text 2 0 == 32) refl refl
  where
    by : (a b : Bool) → (get_or text 0 0 == 32) ≡ a → (get_or text 2 0 == 32) ≡ b
        → cond (a && b) (operation_by (operator_of (slice_index text 1)) (operand (drop 3 text))) None ≡ None
    by true true e f = absurd (other (grind (arith, nat_tests, e)) (grind (arith, nat_tests, f)))
    by true false e f = refl
    by false b e f = refl

abbrev nothing : Option (Operation × ℕ)
nothing = None

same_none : (b : Bool) → cond b nothing nothing ≡ None
same_none true = refl
same_none false = refl

pub no_sign : (text : List ℕ) → operator_of (get_or text 1 0) ≡ None → operation_at text ≡ None
unfolding operation_at
no_sign text none = rw none (same_none (slice_index text 0 == 32 && slice_index text 2 == 32))

pub no_number : (text : List ℕ) (operator : Operator) → operator_of (get_or text 1 0) ≡ Some operator
    → digits operand_digits (operand (drop 3 text)) ≡ None → operation_at text ≡ None
unfolding operation_at
no_number text operator sign none = rw (sign, none) (same_none (slice_index text 0 == 32 && slice_index text 2 == 32))

-- what the digits of an operation are cut to
pub operand_cut : (text : List ℕ) (n : ℕ) → n ≡ length (operand text) → take n text ≡ operand text
operand_cut text n is =
    let p = prefix_len is_digit (take 5 text) in
    let size : n ≡ p = is ∙ length-prefix_len is_digit (take 5 text) in
    let few : p ≤ 5 = omega (arith, prefix_len-le-length is_digit (take 5 text), length-take 5 text) in
    rw size (sym (take-take p 5 text few))

-- ---- loops

pub any_here : (text rest : List ℕ) (operation : Operation) → FindsOperation text operation rest → divides_by_zero operation ≡ true
    → list_any divides_by_zero (operations_of text) ≡ true
any_here text rest operation found divides = ap (list_any divides_by_zero) (operations_found text rest operation found) ∙ rw divides refl

pub any_later : (text rest : List ℕ) (operation : Operation) → FindsOperation text operation rest → divides_by_zero operation ≡ false
    → list_any divides_by_zero (operations_of rest) ≡ list_any divides_by_zero (operations_of text)
any_later text rest operation found not = sym (ap (list_any divides_by_zero) (operations_found text rest operation found) ∙ rw not refl)

pub any_end : (text : List ℕ) → operation_at text ≡ None → list_any divides_by_zero (operations_of text) ≡ false
any_end text none = ap (list_any divides_by_zero) (operations_end text none)

pub applied_none : (operations : List Operation) → applied_all None operations ≡ None
applied_none [] = refl
applied_none (operation ∷ operations) = applied_none operations

pub applied_on : (text rest : List ℕ) (operation : Operation) (value : ℕ) (after : Option ℕ) → FindsOperation text operation rest
    → after ≡ computed operation.operator value operation.number → applied_all (Some value) (operations_of text) ≡ applied_all after (operations_of rest)
applied_on text rest operation value after found is =
    ap (applied_all (Some value)) (operations_found text rest operation found) ∙ ap (λ (v : Option ℕ). applied_all v (operations_of rest)) (sym is)

pub applied_end : (text : List ℕ) (value : ℕ) → operation_at text ≡ None → applied_all (Some value) (operations_of text) ≡ Some value
applied_end text value none = ap (applied_all (Some value)) (operations_end text none)

pub has_found : (text : List ℕ) (answer : Option (Operation × Bor (List ℕ)))
    → MatchOption answer (operation_at text ≡ None) (λ found. FindsOperation text found.0 found.1.now)
    → is_some answer ≡ nat_lt 0 (length (operations_of text))
has_found text None none = sym (ap (λ (ops : List Operation). nat_lt 0 (length ops)) (operations_end text none))
has_found text (Some found) is =
    sym (ap (λ (ops : List Operation). nat_lt 0 (length ops)) (operations_found text found.1.now found.0 is)
    ∙ lt-ltb 0 (length (found.0 ∷ operations_of found.1.now)) (omega arith))

pub none_divides : (operations : List Operation)
    → not (list_any divides_by_zero operations) ≡ list_all (λ operation. not (divides_by_zero operation)) operations
none_divides [] = refl
none_divides (operation ∷ operations) = by (divides_by_zero operation) (none_divides operations)
  where
    by : (b : Bool) → not (list_any divides_by_zero operations) ≡ list_all (λ operation. not (divides_by_zero operation)) operations
        → not (b || list_any divides_by_zero operations) ≡ (not b && list_all (λ operation. not (divides_by_zero operation)) operations)
    by true later = refl
    by false later = later

pub len_step : (text rest later : List ℕ) → operations_len text + length rest ≡ length text + operations_len rest
    → operations_len rest + length later ≡ length rest + operations_len later → operations_len text + length later ≡ length text + operations_len later
len_step text rest later so_far next = omega (arith, so_far, next)

pub drop_step : (text rest later : List ℕ) → rest ≡ drop (length text - length rest) text → length rest ≤ length text → length later < length rest
    → later ≡ drop (length rest - length later) rest → later ≡ drop (length text - length later) text
drop_step text rest later so_far within shorter next =
    let size : (length text - length rest) + (length rest - length later) ≡ length text - length later = omega arith in
    next ∙ ap (drop (length rest - length later)) so_far ∙ drop-drop (length rest - length later) (length text - length rest) text
    ∙ ap (λ (n : ℕ). drop n text) size

-- a slice from a place to the end
pub tail_is : (n : ℕ) (text : List ℕ) → take (length text - n) (drop n text) ≡ drop n text
tail_is n text = ap (λ (k : ℕ). take k (drop n text)) (sym (length-drop_is n text)) ∙ take-length (drop n text)
  where
    length-drop_is : (n : ℕ) (text : List ℕ) → length (drop n text) ≡ length text - n
    length-drop_is n text = omega (arith, length-drop n text)

pub within_text : (text : List ℕ) (i : ℕ) → get_or text i 0 ≡ 32 → i < length text
within_text text i is = by (nat_lt i (length text)) refl
  where
    by : (b : Bool) → nat_lt i (length text) ≡ b → i < length text
    by true below = grind (arith, nat_tests, below)
    by false below =
        let past : length text ≤ i = grind (arith, nat_tests, below) in
        absurd (omega (arith, is, get_or_past text i 0 past))

pub finds_operation : (text behind digits_are rest : List ℕ) (operator : Operator) (number k : ℕ) → get_or text 0 0 ≡ 32 → get_or text 2 0 ≡ 32
    → Some operator ≡ operator_of (get_or text 1 0) → behind ≡ drop 3 text → 3 ≤ length text → k ≡ length (operand behind) → k ≤ length behind
    → digits_are ≡ take k behind → rest ≡ drop k behind → Some number ≡ digits operand_digits digits_are
    → FindsOperation text (record { operator = operator; number = number }) rest
finds_operation text behind digits_are rest operator number k first third sign is long size within cut rest_is read =
    let here : k ≡ length (operand (drop 3 text)) = size ∙ ap (λ (xs : List ℕ). length (operand xs)) is in
    let they : digits_are ≡ operand (drop 3 text) = cut ∙ operand_cut behind k size ∙ ap operand is in
    let all : 3 + length (operand (drop 3 text)) ≡ 3 + k = omega (arith, here) in
    let count : length behind ≡ length text - 3 = omega (arith, ap length is, length-drop 3 text) in (
      3 + length (operand (drop 3 text)),
      operation_is text operator number first third (sym sign) (ap (digits operand_digits) (sym they) ∙ sym read),
      omega arith,
      omega (arith, here, count),
      rest_is ∙ ap (drop k) is ∙ drop-drop k 3 text ∙ ap (λ (n : ℕ). drop n text) (sym all),
    )
