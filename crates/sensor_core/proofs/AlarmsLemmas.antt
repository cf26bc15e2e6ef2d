-- Alarms, one value on.
use Rattle.std.proofs.Common.{◌≡◌, ℕ, zero, suc, ◌+◌, ◌<◌, ◌≤◌, ℤ, pos, ◌+ℤ◌, ◌-ℤ◌, ◌≤ℤ◌, Bool, true, false, true≢false}
use Rattle.std.proofs.Common.{cond, not, ◌&&◌, ◌||◌, List, [], ◌∷◌, ◌++◌, map, take}
use Rattle.std.proofs.Common.{drop, set, get_or, length, replicate, refl, sym, ap, subst, add-one, ap₂, ◌∙◌, arith}
use Rattle.std.proofs.Math.Bool.{beq}
use Rattle.std.proofs.Math.Seq.{take-append_seam, drop-append_seam}
use Rattle.std.proofs.lemmas.Int.{ints}
use Rattle.std.proofs.lemmas.List.{take_all, take-set, take-append-drop, length-take-le, set-get_or, get_or-set_same}
use Rattle.std.proofs.lemmas.List.Elements.{All-head, All-tail}
use Rattle.std.proofs.lemmas.List.Sums.{take_while-cons}
use Rattle.std.specs.Int.RustNames.{int_lt, int_le}
use Rattle.std.specs.List.{All, list_any}
use Rattle.bmc_base.specs.declared.milli.Milli.{Milli}
use Rattle.sensor_core.specs.declared.limit.Limit.{Limit}
use Rattle.sensor_core.specs.Limits.{IsValidLimit, is_beyond, is_back, is_on}
use Rattle.sensor_core.specs.Updates.{alarm_after, alarms_after}

-- no value is both beyond a limit and back from it
apart_by : (above : Bool) (at width value : ℤ) → pos 0 ≤ℤ width → cond above (int_le at value) (int_le value at) ≡ true
    → cond above (int_lt value (at -ℤ width)) (int_lt (at +ℤ width) value) ≡ false
apart_by true at width value low beyond = grind (arith, ints)
apart_by false at width value low beyond = grind (arith, ints)

pub apart : (limit : Limit) (value : Milli) → IsValidLimit limit → is_beyond limit value ≡ true → is_back limit value ≡ false
apart limit value valid beyond = apart_by limit.above limit.value.0 limit.hysteresis.0 value.0 valid.upward beyond

-- so a value that is back puts the alarm off
beaten : (beyond on : Bool) → (beyond ≡ true → true ≡ false) → (beyond || (on && false)) ≡ false
beaten true on never = never refl
beaten false true never = refl
beaten false false never = refl

kept : (on : Bool) → (on && true) ≡ on
kept true = refl
kept false = refl

more_by : (test : Milli → Bool) (value : Milli) (since : List Milli) (back : Bool) → (test value ≡ true → back ≡ false)
    → (test value || (list_any test since && not back)) ≡ list_any test (cond (not back) (value ∷ since) [])
more_by test value since true never = beaten (test value) (list_any test since) never
more_by test value since false never = ap (λ on. test value || on) (kept (list_any test since))

pub on_more : (limit : Limit) (value : Milli) (values : List Milli) → IsValidLimit limit
    → alarm_after limit (is_on limit values) value ≡ is_on limit (value ∷ values)
on_more limit value values valid =
    more_by (is_beyond limit) value _ (is_back limit value) (apart limit value valid)
    ∙ ap (list_any (is_beyond limit)) (sym (take_while-cons (λ v. not (is_back limit v)) value values))

-- the alarms after one more value are those of all values
pub alarms_more : (limits : List Limit) (value : Milli) (values : List Milli) → All IsValidLimit limits
    → alarms_after limits (map (λ limit. is_on limit values) limits) value ≡ map (λ limit. is_on limit (value ∷ values)) limits
alarms_more [] value values valid = refl
alarms_more (limit ∷ limits) value values valid =
    ap₂ (λ on rest. on ∷ rest) (on_more limit value values (All-head IsValidLimit limit limits valid))
    (alarms_more limits value values (All-tail IsValidLimit limit limits valid))

-- without values no alarm is on
pub alarms_none : (n m : ℕ) (limits : List Limit) → length limits ≡ n
    → take m (replicate n false) ≡ map (λ limit. is_on limit []) (take m limits)
alarms_none zero zero [] same = refl
alarms_none zero (suc m) [] same = refl
alarms_none (suc n) m [] same = absurd (omega arith)
alarms_none zero m (limit ∷ limits) same = absurd (omega arith)
alarms_none (suc n) zero (limit ∷ limits) same = refl
alarms_none (suc n) (suc m) (limit ∷ limits) same = ap (λ rest. false ∷ rest) (alarms_none n m limits (omega arith))

-- the alarms of which the first n had one more value
abbrev pub mixed : List Limit → List Bool → Milli → ℕ → List Bool
mixed limits alarms value n = alarms_after (take n limits) (take n alarms) value ++ drop n alarms

mixed_more : (limits : List Limit) (alarms : List Bool) (value : Milli) (n : ℕ) (limit : Limit) (on : Bool) → n < length limits → n < length alarms
    → set (mixed limits alarms value n) n (alarm_after (get_or limits n limit) (get_or (mixed limits alarms value n) n on) value)
    ≡ mixed limits alarms value (suc n)
mixed_more [] alarms value n limit on p q = absurd (omega arith)
mixed_more (first ∷ limits) [] value n limit on p q = absurd (omega arith)
mixed_more (first ∷ limits) (was_on ∷ alarms) value zero limit on p q = refl
mixed_more (first ∷ limits) (was_on ∷ alarms) value (suc n) limit on p q =
    ap (λ rest. alarm_after first was_on value ∷ rest) (mixed_more limits alarms value n limit on (omega arith) (omega arith))

pub mixed_next : (limits : List Limit) (alarms now : List Bool) (value : Milli) (n : ℕ) (limit : Limit) (on next : Bool) → n < length limits
    → n < length alarms → now ≡ mixed limits alarms value n → next ≡ alarm_after (get_or limits n limit) (get_or now n on) value
    → set now n next ≡ mixed limits alarms value (n + 1)
mixed_next limits alarms now value n limit on next p q is e =
    ap (set now n) e ∙ ap (λ (all : List Bool). set all n (alarm_after (get_or limits n limit) (get_or all n on) value)) is
    ∙ mixed_more limits alarms value n limit on p q ∙ ap (mixed limits alarms value) (sym (add-one n))

length_after : (limits : List Limit) (alarms : List Bool) (value : Milli) → length (alarms_after limits alarms value) ≡ length limits
length_after [] alarms value = refl
length_after (limit ∷ limits) [] value = ap suc (length_after limits [] value)
length_after (limit ∷ limits) (was_on ∷ alarms) value = ap suc (length_after limits alarms value)

-- once all had it
mixed_whole : (limits : List Limit) (alarms now : List Bool) (value : Milli) (n : ℕ) → n ≡ length limits → now ≡ mixed limits alarms value n
    → now ≡ alarms_after limits (take (length limits) alarms) value ++ drop (length limits) alarms
mixed_whole limits alarms now value n e is =
    is ∙ ap (mixed limits alarms value) e
    ∙ ap (λ all. alarms_after all (take (length limits) alarms) value ++ drop (length limits) alarms) (take_all (length limits) limits (omega arith))

-- an alarm that is put as it was changes nothing
pub put_same : (alarms : List Bool) (n : ℕ) (next on : Bool) → not (beq next (get_or alarms n on)) ≡ false → set alarms n next ≡ alarms
put_same alarms n next on same = ap (set alarms n) (equal next (get_or alarms n on) same) ∙ set-get_or alarms n on
  where
    equal : (a b : Bool) → not (beq a b) ≡ false → a ≡ b
    equal true true same = refl
    equal false false same = refl
    equal true false same = absurd (true≢false same)
    equal false true same = absurd (true≢false same)

pub mixed_all : (limits : List Limit) (alarms now : List Bool) (value : Milli) (n : ℕ) → n ≡ length limits → now ≡ mixed limits alarms value n
    → take (length limits) now ≡ alarms_after limits (take (length limits) alarms) value
mixed_all limits alarms now value n e is =
    let after = alarms_after limits (take (length limits) alarms) value in
    ap (take (length limits)) (mixed_whole limits alarms now value n e is)
    ∙ ap (λ m. take m (after ++ drop (length limits) alarms)) (sym (length_after limits (take (length limits) alarms) value))
    ∙ take-append_seam after (drop (length limits) alarms)

pub mixed_behind : (limits : List Limit) (alarms now : List Bool) (value : Milli) (n : ℕ) → n ≡ length limits → now ≡ mixed limits alarms value n
    → drop (length limits) now ≡ drop (length limits) alarms
mixed_behind limits alarms now value n e is =
    let after = alarms_after limits (take (length limits) alarms) value in
    ap (drop (length limits)) (mixed_whole limits alarms now value n e is)
    ∙ ap (λ m. drop m (after ++ drop (length limits) alarms)) (sym (length_after limits (take (length limits) alarms) value))
    ∙ drop-append_seam after (drop (length limits) alarms)

-- where an alarm is put and all are as they were, they were so before it was put
pub same_before : (limits : List Limit) (alarms now : List Bool) (value : Milli) (n : ℕ) (next : Bool) → n ≤ length limits
    → now ≡ mixed limits alarms value n → set now n next ≡ alarms → now ≡ alarms
same_before limits alarms now value n next few is same =
    let after = alarms_after (take n limits) (take n alarms) value in
    let size : length after ≡ n = length_after (take n limits) (take n alarms) value ∙ length-take-le n limits few in
    let behind : drop n now ≡ drop n alarms =
    ap (drop n) is ∙ ap (λ m. drop m (after ++ drop n alarms)) (sym size) ∙ drop-append_seam after (drop n alarms) in
    let front : take n now ≡ take n alarms = sym (take-set now n next) ∙ ap (take n) same in
    sym (take-append-drop n now) ∙ ap₂ (λ xs ys. xs ++ ys) front behind ∙ take-append-drop n alarms

-- and then it is put as it was
pub put_as_before : (alarms now : List Bool) (n : ℕ) (next on : Bool) → n < length alarms → now ≡ alarms → set now n next ≡ alarms
    → not (beq next (get_or now n on)) ≡ false
put_as_before alarms now n next on fits was same =
    let inside : n < length now = subst (λ all. n < length all) (sym was) fits in
    ap (λ (it : Bool). not (beq next it)) (ap (λ all. get_or all n on) (was ∙ sym same) ∙ get_or-set_same now n next on inside) ∙ equal next
  where
    equal : (a : Bool) → not (beq a a) ≡ false
    equal true = refl
    equal false = refl
