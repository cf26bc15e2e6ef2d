-- States that test alike are one.
use Rattle.std.proofs.Common.{◌≡◌, ℤ, true, ◌&&◌, Option, Some, None, refl, ap}
use Rattle.std.proofs.lemmas.Bool.{and_parts}
use Rattle.std.proofs.lemmas.Bool.Decides.{Decides-int_eq}
use Rattle.std.specs.Option.{option_eq}
use Rattle.std.specs.Ordering.{int_eq}
use Rattle.ctl_face.specs.declared.state.CtlState.{CtlState}

number_same : (one other : ℤ) → int_eq one other ≡ true → one ≡ other
number_same one other same = (Decides-int_eq one other).0 same

option_same : (one other : Option ℤ) → option_eq int_eq one other ≡ true → one ≡ other
option_same None None same = refl
option_same None (Some other) same = absurd (cc)
option_same (Some one) None same = absurd (cc)
option_same (Some one) (Some other) same = ap Some (number_same one other same)

pub state_same : (one other : CtlState)
    → (int_eq one.integral other.integral && (option_eq int_eq one.error other.error
    && (option_eq int_eq one.base other.base && option_eq int_eq one.output other.output))) ≡ true
    → one ≡ other
state_same one other same =
    let first = and_parts _ _ same in
    let second = and_parts _ _ first.1 in
    let third = and_parts _ _ second.1 in
    let integral = number_same one.integral other.integral first.0 in
    let error = option_same one.error other.error second.0 in
    let base = option_same one.base other.base third.0 in
    let output = option_same one.output other.output third.1 in
    λ i. record { integral = integral i; error = error i; base = base i; output = output i }
