-- Ticks at which no input is bad, and rows of zones that stay as they are.
use Rattle.std.proofs.Common.{◌≡◌, ℕ, ◌+◌, ◌<◌, ◌≤◌, ℤ, Bool, true, false, not, ◌&&◌, ◌||◌, if◌then◌else◌, nat_eq}
use Rattle.std.proofs.Common.{List, [], ◌∷◌, length, map, take, get_or, Option, Some, None, min, slice_get}
use Rattle.std.proofs.Common.{refl, ap, sym, subst, ◌∙◌, nat_lt, arith}
use Rattle.std.proofs.Math.Bool.{and-false}
use Rattle.std.proofs.Math.Nat.{min-le_left, min-le_right}
use Rattle.std.proofs.lemmas.Bool.{false≢true, false_from_ne_true, ltb-false, ltb-true, not-true, or_from, or_left, or_parts, or_right}
use Rattle.std.proofs.lemmas.List.{take_all}
use Rattle.std.proofs.lemmas.List.Folds.{list_any_at, list_any_more}
use Rattle.std.proofs.lemmas.Option.{none-some, same_Some, slice_get-get_or}
use Rattle.std.specs.Int.{int_max}
use Rattle.std.specs.List.{All, fold, list_any}
use Rattle.std.specs.Option.{ForSome, is_some}
use Rattle.bmc_base.specs.Counts.{last_count}
use Rattle.bmc_base.specs.declared.milli.Milli.{Milli}
use Rattle.ctl_face.specs.Seen.{Seen}
use Rattle.ctl_face.specs.declared.sample.Sample.{Sample}
use Rattle.sensor_core.specs.Fresh.{IsGoodFor, IsLastGood}
use Rattle.sensor_core.specs.Sensors.{Sensor}
use Rattle.fan_zone.specs.Boxes.{box_at}
use Rattle.fan_zone.specs.declared.held.Held.{Held}
use Rattle.fan_zone.specs.declared.rows.ZonePlan.{ZonePlan}
use Rattle.fan_zone.specs.declared.rows.ZoneRow.{ZoneRow}
use Rattle.fan_zone.specs.Inputs.{has_bad_input, is_bad_input, is_bad_sensor, sensor_of, input_of, good_inputs}
use Rattle.fan_zone.specs.IsTicks.{stepped_by}
use Rattle.fan_zone.specs.Passes.{fan_sample, fan_sample_at, milli, pass, shown_setpoint, step_box, thermal_sample, thermal_sample_at, thermal_setpoint}
use Rattle.fan_zone.specs.Rows.{is_in_failsafe, min_thermal, numbered, setpoint_of, thermal_output, thermal_outputs, with_output, zone_row}
use Rattle.fan_zone.specs.Sound.{Differ, number_of}
use Rattle.fan_zone.specs.Steady.{AreShown, earlier, IsSteady, has_bad_input_now, is_due, steady_row}
use Rattle.fan_zone.specs.Ticks.{ZonesView, aged}
use Rattle.fan_zone.proofs.Numbered.{all_tail, numbered_same, numbered_twice}
use Rattle.fan_zone.proofs.OwnBoxes.{pass_own}
use Rattle.fan_zone.proofs.Taken.{any_mapped}

-- ---- until when something is good

-- what is good as another is
last_alike : (bad same : ℕ → Bool) (last : ℕ) → ((tick : ℕ) → bad tick ≡ same tick) → IsLastGood bad last → IsLastGood same last
last_alike bad same last alike good = record {
  good = λ tick le. sym (alike tick) ∙ good.good tick le;
  ends = λ lt. sym (alike (last + 1)) ∙ good.ends lt;
}

pub good_alike : (bad same : ℕ → Bool) (now : ℕ) (until : Option ℕ) → ((tick : ℕ) → bad tick ≡ same tick) → IsGoodFor bad now until → IsGoodFor same now until
good_alike bad same now until alike good = record {
  some = good.some ∙ ap not (alike now);
  last = λ last e. last_alike bad same last alike (good.last last e);
}

some_earlier : (until other : Option ℕ) → is_some (earlier until other) ≡ (is_some until && is_some other)
some_earlier None other = refl
some_earlier (Some one) None = refl
some_earlier (Some one) (Some other) = refl

either_bad : (bad other : Bool) → (not bad && not other) ≡ not (bad || other)
either_bad true other = refl
either_bad false other = refl

-- behind the earlier one of two last ticks one of both is bad
earlier_ends : (bad other : ℕ → Bool) (one two : ℕ) → IsLastGood bad one → IsLastGood other two
    → min one two < last_count → (bad (min one two + 1) || other (min one two + 1)) ≡ true
earlier_ends bad other one two good also lt = by (nat_lt one two) refl
  where
    by : (is : Bool) → nat_lt one two ≡ is → (bad (min one two + 1) || other (min one two + 1)) ≡ true
    by true e =
        let first : min one two ≡ one = omega (arith, ltb-true one two e) in
        or_left (bad (min one two + 1)) (other (min one two + 1)) (ap (λ (tick : ℕ). bad (tick + 1)) first ∙ good.ends (omega (arith, lt, first)))
    by false e =
        let second : min one two ≡ two = omega (arith, ltb-false one two e) in
        or_right (bad (min one two + 1)) (other (min one two + 1)) (ap (λ (tick : ℕ). other (tick + 1)) second ∙ also.ends (omega (arith, lt, second)))

-- a tick up to the earlier one is up to both
min_last : (bad other : ℕ → Bool) (one two : ℕ) → IsLastGood bad one → IsLastGood other two → IsLastGood (λ tick. bad tick || other tick) (min one two)
min_last bad other one two good also = record {
  good = λ tick le. or_from (bad tick) (other tick) (good.good tick (omega (arith, le, min-le_left one two)))
      (also.good tick (omega (arith, le, min-le_right one two)));
  ends = earlier_ends bad other one two good also;
}

earlier_last : (bad other : ℕ → Bool) (until another : Option ℕ) (last : ℕ) → ForSome until (IsLastGood bad) → ForSome another (IsLastGood other)
    → earlier until another ≡ Some last → IsLastGood (λ tick. bad tick || other tick) last
earlier_last bad other None another last good also e = absurd (none-some last e)
earlier_last bad other (Some one) None last good also e = absurd (none-some last e)
earlier_last bad other (Some one) (Some two) last good also e =
    subst (IsLastGood (λ tick. bad tick || other tick)) (same_Some (min one two) last e) (min_last bad other one two (good one refl) (also two refl))

-- both are good up to the earlier tick
pub good_both : (bad other : ℕ → Bool) (now : ℕ) (until another : Option ℕ) → IsGoodFor bad now until → IsGoodFor other now another
    → IsGoodFor (λ tick. bad tick || other tick) now (earlier until another)
good_both bad other now until another good also = record {
  some = some_earlier until another
      ∙ (ap (λ (b : Bool). b && is_some another) good.some ∙ (ap (λ (b : Bool). not (bad now) && b) also.some ∙ either_bad (bad now) (other now)));
  last = λ last e. earlier_last bad other until another last good.last also.last e;
}

-- what is never bad is good up to the last tick that there is
pub good_none : (now : ℕ) → IsGoodFor (λ tick. false) now (Some last_count)
good_none now = record {
  some = refl;
  last = λ last e. record { good = λ tick le. refl; ends = λ lt. absurd (omega (arith, lt, same_Some last_count last e)) };
}

-- what is bad now is good up to no tick
pub bad_now : (bad : ℕ → Bool) (now : ℕ) → bad now ≡ true → IsGoodFor bad now None
bad_now bad now e = record { some = ap not (sym e); last = λ last f. absurd (none-some last f) }

-- where there is such a tick, it is not bad now
pub none_bad : (bad : ℕ → Bool) (now : ℕ) (until : Option ℕ) → IsGoodFor bad now until → is_some until ≡ true → bad now ≡ false
none_bad bad now until good e = not-true (bad now) (sym good.some ∙ e)

-- ---- inputs, one more at a time

-- what the walk over inputs keeps: until when those before n are good
pub record InputsGood (slots : List (Option Sensor)) (now : ℕ) (inputs : List (Option ℕ)) (until : Option ℕ) (n : ℕ) : Type 0 where
  pub good : IsGoodFor (λ tick. list_any (is_bad_input slots tick) (take n inputs)) now until

pub inputs_start : (slots : List (Option Sensor)) (now : ℕ) (inputs : List (Option ℕ)) → InputsGood slots now inputs (Some last_count) 0
inputs_start slots now inputs = record { good = good_none now }

pub inputs_more : (slots : List (Option Sensor)) (now : ℕ) (inputs : List (Option ℕ)) (until another : Option ℕ) (n : ℕ) (input : Option ℕ)
    → InputsGood slots now inputs until n → n < length inputs → input ≡ get_or inputs n input
    → IsGoodFor (λ tick. is_bad_input slots tick input) now another → InputsGood slots now inputs (earlier until another) (n + 1)
inputs_more slots now inputs until another n input w lt at good = record {
  good = good_alike _ _ now (earlier until another)
      (λ tick. ap (λ (x : Option ℕ). list_any (is_bad_input slots tick) (take n inputs) || is_bad_input slots tick x) at
      ∙ sym (list_any_more (is_bad_input slots tick) inputs n input lt))
      (good_both _ _ now until another w.good good);
}

pub inputs_end : (slots : List (Option Sensor)) (now : ℕ) (inputs : List (Option ℕ)) (until : Option ℕ) (n : ℕ) → InputsGood slots now inputs until n
    → length inputs ≤ n → IsGoodFor (λ tick. has_bad_input slots tick inputs) now until
inputs_end slots now inputs until n w le = good_alike _ _ now until
    (λ tick. ap (list_any (is_bad_input slots tick)) (take_all n inputs le) ∙ sym (any_mapped (is_bad_sensor tick) (sensor_of slots) inputs))
    w.good

-- what holds of none of some things holds of no one of them
none_at : {X : Type 0} (test : X → Bool) (xs : List X) (n : ℕ) (x : X) → list_any test xs ≡ false → n < length xs → x ≡ get_or xs n x → test x ≡ false
none_at test xs n x none lt at = false_from_ne_true (test x)
    (λ is. false≢true (sym none ∙ list_any_at test xs n x lt (ap test (sym at) ∙ is)))

pub good_input_at : (slots : List (Option Sensor)) (now : ℕ) (inputs : List (Option ℕ)) (n : ℕ) (input : Option ℕ)
    → has_bad_input slots now inputs ≡ false → n < length inputs → input ≡ get_or inputs n input → is_bad_input slots now input ≡ false
good_input_at slots now inputs n input none lt at =
    none_at (is_bad_input slots now) inputs n input (sym (any_mapped (is_bad_sensor now) (sensor_of slots) inputs) ∙ none) lt at

pub good_inputs_at : (slots : List (Option Sensor)) (now : ℕ) (held : List Held) (n : ℕ) (one : Held)
    → has_bad_input_now slots now held ≡ false → n < length held → one ≡ get_or held n one → has_bad_input slots now one.inputs ≡ false
good_inputs_at slots now held n one none lt at = none_at (λ (x : Held). has_bad_input slots now x.inputs) held n one none lt at

-- what the walk over controllers keeps
pub record HeldGood (slots : List (Option Sensor)) (now : ℕ) (held : List Held) (until : Option ℕ) (n : ℕ) : Type 0 where
  pub good : IsGoodFor (λ tick. has_bad_input_now slots tick (take n held)) now until

pub held_start : (slots : List (Option Sensor)) (now : ℕ) (held : List Held) → HeldGood slots now held (Some last_count) 0
held_start slots now held = record { good = good_none now }

pub held_more : (slots : List (Option Sensor)) (now : ℕ) (held : List Held) (until another : Option ℕ) (n : ℕ) (one : Held)
    → HeldGood slots now held until n → n < length held → one ≡ get_or held n one
    → IsGoodFor (λ tick. has_bad_input slots tick one.inputs) now another → HeldGood slots now held (earlier until another) (n + 1)
held_more slots now held until another n one w lt at good = record {
  good = good_alike _ _ now (earlier until another)
      (λ tick. ap (λ (x : Held). has_bad_input_now slots tick (take n held) || has_bad_input slots tick x.inputs) at
      ∙ sym (list_any_more (λ (x : Held). has_bad_input slots tick x.inputs) held n one lt))
      (good_both _ _ now until another w.good good);
}

pub held_end : (slots : List (Option Sensor)) (now : ℕ) (held : List Held) (until : Option ℕ) (n : ℕ) → HeldGood slots now held until n
    → length held ≤ n → IsGoodFor (λ tick. has_bad_input_now slots tick held) now until
held_end slots now held until n w le = good_alike _ _ now until (λ tick. ap (has_bad_input_now slots tick) (take_all n held le)) w.good

-- ---- ticks at which no thermal controller steps

not_due : (setpoint : Option Milli) (input : Option ℤ) → thermal_sample_at setpoint false input ≡ None
not_due None input = refl
not_due (Some setpoint) input = refl

pass_none : (slots : List (Option Sensor)) (now : ℕ) (held : List Held) (bank : List Seen) → is_due held ≡ false
    → pass (thermal_sample slots now) held bank ≡ bank
pass_none slots now [] bank e = refl
pass_none slots now (one ∷ more) bank e =
    let parts = or_parts (nat_eq one.age 0) (is_due more) e in
    let input = input_of one.role (good_inputs slots now one.inputs) in
    let none : thermal_sample slots now one ≡ None =
    ap (λ (due : Bool). thermal_sample_at (thermal_setpoint one.role) due input) parts.0 ∙ not_due (thermal_setpoint one.role) input in
    ap (λ (sample : Option Sample). pass (thermal_sample slots now) more (step_box bank one.number sample)) none ∙ pass_none slots now more bank parts.1

-- where no controller is due, the boxes are as they were
pub none_due : (slots : List (Option Sensor)) (now : ℕ) (held : List Held) (bank : List Seen) → is_due held ≡ false
    → bank ≡ pass (thermal_sample slots now) held bank
none_due slots now held bank e = sym (pass_none slots now held bank e)

-- ---- rows that stay as they are

none_in_failsafe : (slots : List (Option Sensor)) (now zone : ℕ) (held : List Held) → has_bad_input_now slots now held ≡ false
    → is_in_failsafe slots now zone held ≡ false
none_in_failsafe slots now zone [] e = refl
none_in_failsafe slots now zone (one ∷ more) e =
    let parts = or_parts (has_bad_input slots now one.inputs) (has_bad_input_now slots now more) e in
    or_from (nat_eq one.zone zone && has_bad_input slots now one.inputs) (is_in_failsafe slots now zone more)
    (ap (λ (bad : Bool). nat_eq one.zone zone && bad) parts.0 ∙ and-false (nat_eq one.zone zone)) (none_in_failsafe slots now zone more parts.1)

-- the row of a zone none of whose inputs is bad
row_steady : (slots : List (Option Sensor)) (now : ℕ) (plans : List ZonePlan) (held : List Held) (bank : List Seen) (zone : ℕ) (row : ZoneRow)
    → has_bad_input_now slots now held ≡ false → zone_row slots now plans held bank zone row ≡ steady_row plans held bank zone row
row_steady slots now plans held bank zone row e =
    ap (λ (failsafe : Bool). record {
      name = row.name;
      failsafe = failsafe;
      setpoint = Some (milli (setpoint_of (min_thermal (slice_get plans zone)) zone held bank));
    }) (none_in_failsafe slots now zone held e)

pub rows_steady : (slots : List (Option Sensor)) (now : ℕ) (plans : List ZonePlan) (held : List Held) (bank : List Seen) (rows : List ZoneRow)
    → has_bad_input_now slots now held ≡ false
    → numbered (zone_row slots now plans held bank) 0 rows ≡ numbered (steady_row plans held bank) 0 rows
rows_steady slots now plans held bank rows e =
    numbered_same (zone_row slots now plans held bank) (steady_row plans held bank) 0 rows (λ zone row le. row_steady slots now plans held bank zone row e)

-- rows that are steady are those of a tick at which no input is bad
pub shown_when_steady : (slots : List (Option Sensor)) (now : ℕ) (view : ZonesView) → IsSteady view → has_bad_input_now slots now view.held ≡ false
    → AreShown slots now view.zone_plans view.held view.bank view.zone_rows
shown_when_steady slots now view steady e = record {
  rows_are = steady.rows_are ∙ sym (rows_steady slots now view.zone_plans view.held view.bank view.zone_rows e);
  small = steady.small;
}

-- the fan pass leaves the boxes of thermal controllers
output_still : (setpoint : Option Milli) (input : Option ℤ) (shown : Milli) (own : Bool) (box start : Seen)
    → box ≡ stepped_by (fan_sample_at setpoint input shown) start
    → (if own && is_some setpoint then box.state.output else None) ≡ (if own && is_some setpoint then start.state.output else None)
output_still None input shown true box start e = refl
output_still None input shown false box start e = refl
output_still (Some setpoint) input shown own box start e = ap (λ (seen : Seen). if own && true then seen.state.output else None) e

outputs_still : (zone : ℕ) (held : List Held) (bank start : List Seen)
    → All (λ (one : Held). thermal_output zone bank one ≡ thermal_output zone start one) held
    → thermal_outputs zone (map aged held) bank ≡ thermal_outputs zone held start
outputs_still zone [] bank start all = refl
outputs_still zone (one ∷ more) bank start all =
    ap (λ (output : Option ℤ). with_output output (thermal_outputs zone (map aged more) bank)) (all 0 one (omega arith))
    ∙ ap (with_output (thermal_output zone start one))
    (outputs_still zone more bank start (all_tail (λ (x : Held). thermal_output zone bank x ≡ thermal_output zone start x) one more all))

module _ (slots : List (Option Sensor)) (now : ℕ) (rows : List ZoneRow) (held : List Held) (start : List Seen) (apart : Differ (map number_of held))
    (within : All (λ (one : Held). one.number < length start) held)
  where
    setpoint_still : (low : ℤ) (zone : ℕ) → setpoint_of low zone (map aged held) (pass (fan_sample slots now rows) held start) ≡ setpoint_of low zone held start
    setpoint_still low zone = ap (fold int_max low) (outputs_still zone held (pass (fan_sample slots now rows) held start) start (λ n d lt.
        let one = get_or held n d in
        output_still (thermal_setpoint one.role) (input_of one.role (good_inputs slots now one.inputs)) (shown_setpoint rows one.zone)
        (nat_eq one.zone zone) (box_at (pass (fan_sample slots now rows) held start) one.number) (box_at start one.number)
        (pass_own (fan_sample slots now rows) held start n one apart within (slice_get-get_or held n d lt))))

    -- and so rows that are steady before it are so after it
    pub steady_after : (plans : List ZonePlan) (then_rows : List ZoneRow) → then_rows ≡ numbered (steady_row plans held start) 0 then_rows
        → then_rows ≡ numbered (steady_row plans (map aged held) (pass (fan_sample slots now rows) held start)) 0 then_rows
    steady_after plans then_rows e = e ∙ numbered_same (steady_row plans held start)
        (steady_row plans (map aged held) (pass (fan_sample slots now rows) held start)) 0 then_rows
        (λ zone row le. ap (λ (setpoint : ℤ). record { name = row.name; failsafe = false; setpoint = Some (milli setpoint) })
        (sym (setpoint_still (min_thermal (slice_get plans zone)) zone)))

-- steady rows stay so when they are written again
pub steady_twice : (plans : List ZonePlan) (held : List Held) (bank : List Seen) (rows start : List ZoneRow)
    → rows ≡ numbered (steady_row plans held bank) 0 start → rows ≡ numbered (steady_row plans held bank) 0 rows
steady_twice plans held bank rows start e =
    e ∙ (sym (numbered_twice (steady_row plans held bank) (steady_row plans held bank) 0 start)
    ∙ ap (numbered (steady_row plans held bank) 0) (sym e))
