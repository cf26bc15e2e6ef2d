-- A walk over the inputs, one input on.
use Rattle.std.proofs.Common.{◌≡◌, ℕ, ◌+◌, ◌<◌, ◌≤◌, ℤ, Bool, true, false, if◌then◌else◌, List, [], ◌∷◌, length, drop, get_or, Option, Some, None}
use Rattle.std.proofs.Common.{refl, ap, sym, ◌∙◌, ◌||◌, filter, map}
use Rattle.std.specs.List.{list_any}
use Rattle.std.proofs.lemmas.List.{at_drop_more, at_drop_all}
use Rattle.std.specs.Int.{int_max, int_min}
use Rattle.bmc_base.specs.declared.milli.Milli.{Milli}
use Rattle.fan_zone.specs.declared.held.Role.{Role}
use Rattle.fan_zone.specs.declared.held.Role.TheVariants.{Fan, Temp, Margin}
use Rattle.sensor_core.specs.Sensors.{Sensor}
use Rattle.fan_zone.specs.Inputs.{good_input, good_inputs, with_value, input_of, is_positive}
use Rattle.fan_zone.specs.Best.{extreme_from, input_from, better_by, better, better_with}

-- a test over what is mapped
pub any_mapped : {X Y : Type 0} (test : Y → Bool) (h : X → Y) (xs : List X) → list_any test (map h xs) ≡ list_any (λ x. test (h x)) xs
any_mapped test h [] = refl
any_mapped test h (x ∷ xs) = ap (λ (b : Bool). test (h x) || b) (any_mapped test h xs)

extreme_more : (pick : ℤ → ℤ → ℤ) (best : Option ℤ) (value : ℤ) (values : List ℤ) → extreme_from pick (better_by pick best value) values
    ≡ extreme_from pick best (value ∷ values)
extreme_more pick None value values = refl
extreme_more pick (Some best) value values = refl

-- a fan controller passes over what is not positive
fan_more : (b : Bool) (best : Option ℤ) (value : ℤ) (values : List ℤ)
    → extreme_from int_min (if b then better_by int_min best value else best) values ≡ extreme_from int_min best (if b then value ∷ values else values)
fan_more true best value values = extreme_more int_min best value values
fan_more false best value values = refl

pub better_more : (role : Role) (best : Option ℤ) (value : ℤ) (values : List ℤ) → input_from role (better role best value) values
    ≡ input_from role best (value ∷ values)
better_more Fan best value values = fan_more (is_positive value) best value (filter is_positive values)
better_more (Temp setpoint) best value values = extreme_more int_max best value values
better_more (Margin setpoint) best value values = extreme_more int_min best value values

pub taken : (role : Role) (best : Option ℤ) (value : Option Milli) (values : List ℤ) → input_from role (better_with role best value) values
    ≡ input_from role best (with_value value values)
taken role best None values = refl
taken role best (Some value) values = better_more role best value.0 values

pub input_none : (role : Role) (values : List ℤ) → input_from role None values ≡ input_of role values
input_none Fan values = refl
input_none (Temp setpoint) values = refl
input_none (Margin setpoint) values = refl

pub input_end : (role : Role) (best : Option ℤ) → input_from role best [] ≡ best
input_end Fan None = refl
input_end Fan (Some best) = refl
input_end (Temp setpoint) None = refl
input_end (Temp setpoint) (Some best) = refl
input_end (Margin setpoint) None = refl
input_end (Margin setpoint) (Some best) = refl

-- what the walk keeps
pub record Walked (slots : List (Option Sensor)) (now : ℕ) (role : Role) (inputs : List (Option ℕ)) (best : Option ℤ) (n : ℕ) : Type 0 where
  pub rest : input_from role best (good_inputs slots now (drop n inputs)) ≡ input_of role (good_inputs slots now inputs)

pub walked_more : (slots : List (Option Sensor)) (now : ℕ) (role : Role) (inputs : List (Option ℕ)) (best : Option ℤ) (n : ℕ) (input : Option ℕ)
    (next : Option ℤ)
    → Walked slots now role inputs best n → n < length inputs
    → input ≡ get_or inputs n input → next ≡ better_with role best (good_input slots now input) → Walked slots now role inputs next (n + 1)
walked_more slots now role inputs best n input next w lt at is =
    let rest = λ (left : List (Option ℕ)). input_from role best (good_inputs slots now left) in
    let here : rest (drop n inputs) ≡ rest (input ∷ drop (n + 1) inputs) =
    at_drop_more rest inputs n input lt ∙ ap (λ (i : Option ℕ). rest (i ∷ drop (n + 1) inputs)) (sym at) in
    record {
      rest = ap (λ (b : Option ℤ). input_from role b (good_inputs slots now (drop (n + 1) inputs))) is
          ∙ (taken role best (good_input slots now input) (good_inputs slots now (drop (n + 1) inputs)) ∙ (sym here ∙ w.rest));
    }

pub walked_end : (slots : List (Option Sensor)) (now : ℕ) (role : Role) (inputs : List (Option ℕ)) (best : Option ℤ) (n : ℕ)
    → Walked slots now role inputs best n
    → length inputs ≤ n → best ≡ input_of role (good_inputs slots now inputs)
walked_end slots now role inputs best n w le =
    sym (input_end role best) ∙ (sym (at_drop_all (λ (left : List (Option ℕ)). input_from role best (good_inputs slots now left)) inputs n le) ∙ w.rest)
