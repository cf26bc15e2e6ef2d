-- A tick: zones that stand for a history stand for it with the tick behind.
use Rattle.std.proofs.Common.{◌≡◌, ℕ, zero, suc, ◌+◌, ◌<◌, ◌%◌, ℤ, pos, Bool, true, false, cond, ◌&&◌, ◌||◌, List, [], ◌∷◌, length, map, filter_map, Option}
use Rattle.std.proofs.Common.{Some, None, refl, ap, ap₂, sym, ◌∙◌, subst, arith, slice_get, nat_eq, option_map, unwrap_or, is_some}
use Rattle.std.specs.Prelude.{bytes_eq, find}
use Rattle.std.specs.Cmp.Lexicographic.{bytes_decides}
use Rattle.std.specs.Int.{int_max}
use Rattle.std.specs.List.{All, AllByRecursion, cons_option, fold, list_any}
use Rattle.std.specs.Option.{option_map_or}
use Rattle.std.proofs.Math.Nat.{suc-mod}
use Rattle.std.proofs.lemmas.Option.{none-some, same_Some, slice_get-map}
use Rattle.bmc_base.specs.declared.milli.Milli.{Milli}
use Rattle.sensor_core.specs.Sensors.{Sensor}
use Rattle.ctl_face.specs.Kinds.{kind_of}
use Rattle.ctl_face.specs.Seen.{Seen, unloaded}
use Rattle.ctl_face.specs.Steps.{blank}
use Rattle.ctl_face.specs.declared.sample.Sample.{Sample}
use Rattle.ctl_face.specs.declared.setting.Setting.{Setting}
use Rattle.ctl_face.specs.declared.state.CtlState.{CtlState}
use Rattle.cfg_json.specs.declared.item.Item.{Item}
use Rattle.live_sensors.specs.Sensors.{LiveSensors, sensor_in}
use Rattle.fan_zone.specs.declared.held.Held.{Held}
use Rattle.fan_zone.specs.declared.held.Role.{Role}
use Rattle.fan_zone.specs.declared.rows.FanPlan.{FanPlan}
use Rattle.fan_zone.specs.declared.rows.ZonePlan.{ZonePlan}
use Rattle.fan_zone.specs.declared.rows.ZoneRow.{ZoneRow}
use Rattle.fan_zone.specs.Boxes.{box_at}
use Rattle.fan_zone.specs.Inputs.{goods, has_bad, input_of, sensor_of}
use Rattle.fan_zone.specs.IsSets.{Paired}
use Rattle.fan_zone.specs.IsTicks.{stepped_by}
use Rattle.fan_zone.specs.Live.{LiveControl, LiveZone, LiveFan, controls, zones, fans}
use Rattle.fan_zone.specs.Passes.{milli, fan_sample, fan_sample_at, shown, shown_setpoint, thermal_sample, thermal_sample_at, thermal_setpoint}
use Rattle.fan_zone.specs.Rows.{commanded, failsafe_percent, fan_row, full, held_at, held_duty, holder_number, is_in_failsafe, is_failsafe, min_thermal}
use Rattle.fan_zone.specs.Rows.{numbered, output_of, thermal_output, thermal_outputs, with_output, zone_row}
use Rattle.fan_zone.specs.SetRows.{fan_plan_of, first_from, outputs_to, plan_of}
use Rattle.fan_zone.specs.Sets.{held_of, is_taken, role_of, seat_of, zone_of}
use Rattle.fan_zone.specs.Sound.{Differ, number_of}
use Rattle.fan_zone.specs.Ticks.{ZonesView, aged, bank_after, fan_rows_after, thermal_bank, ticked, zone_rows_after}
use Rattle.fan_zone.proofs.Numbered.{all_cons}
use Rattle.fan_zone.proofs.OwnBoxes.{pass_other, pass_own}
use Rattle.fan_zone.proofs.SoundLaw.{length-pass}
use Rattle.bmc_machine.specs.Histories.{Step, Tick, is_strict}
use Rattle.bmc_machine.specs.Indexes.{live_now}
use Rattle.bmc_machine.specs.Lives.{has_id, sensor_now}
use Rattle.bmc_machine.specs.Turns.{age_of, duty_by, duty_now, fan_now, fan_sample_now, fan_state, holder_of, in_failsafe, input_now, inputs_now}
use Rattle.bmc_machine.specs.Turns.{is_thermal, next_tick, percent_of, reads_bad, setpoint_now, state_now, stepped_state, thermal_sample_now}
use Rattle.bmc_machine.specs.Turns.{thermal_state, zone_named, zone_now, zone_output}
use Rattle.bmc_machine.specs.Zones.{Holds, ZonesStand, box_now}
use Rattle.bmc_machine.proofs.IdleLemmas.{live_same}
use Rattle.bmc_machine.proofs.NumberLemmas.{AreApart, IsNumber, has_number, inputs_are, is_named, number_is, same_zone, zone_at, zone_number}
use Rattle.bmc_machine.proofs.SinceLemmas.{fan_name, since_live, zone_name}

-- ---- lists in pairs

paired_with : {A B : Type 0} (P : A → Type 0) (Q : B → Type 0) (R S : A → B → Type 0) (xs : List A) (ys : List B) → AllByRecursion P xs → AllByRecursion Q ys
    → Paired R xs ys → ((x : A) (y : B) → P x → Q y → R x y → S x y) → Paired S xs ys
paired_with P Q R S [] [] all each pairs next = tt
paired_with P Q R S [] (y ∷ ys) all each pairs next = absurd pairs
paired_with P Q R S (x ∷ xs) [] all each pairs next = absurd pairs
paired_with P Q R S (x ∷ xs) (y ∷ ys) all each pairs next =
    (next x y all.0 each.0 pairs.0, paired_with P Q R S xs ys all.1 each.1 pairs.1 next)

pub by_place : {A : Type 0} (P : A → Type 0) (xs : List A) → ((n : ℕ) (x : A) → slice_get xs n ≡ Some x → P x) → AllByRecursion P xs
by_place P [] each = tt
by_place P (x ∷ xs) each = (each 0 x refl, by_place P xs (λ n y at. each (suc n) y at))

pub at_place : {A : Type 0} (P : A → Type 0) (xs : List A) (n : ℕ) (x : A) → AllByRecursion P xs → slice_get xs n ≡ Some x → P x
at_place P [] n x all at = absurd (none-some x at)
at_place P (first ∷ xs) zero x all at = subst P (same_Some first x at) all.0
at_place P (first ∷ xs) (suc n) x all at = at_place P xs n x all.1 at

all_of : {A : Type 0} (P : A → Type 0) (xs : List A) → AllByRecursion P xs → All P xs
all_of P [] all = λ k d within. absurd (omega arith)
all_of P (x ∷ xs) all = all_cons P x xs all.0 (all_of P xs all.1)

-- rows that are numbered, where each becomes what it has to be
numbered_is : {Z R : Type 0} (f : ℕ → R → R) (before after : Z → R) (k : ℕ) (zs : List Z)
    → ((n : ℕ) (z : Z) → slice_get zs n ≡ Some z → f (k + n) (before z) ≡ after z) → numbered f k (map before zs) ≡ map after zs
numbered_is f before after k [] each = refl
numbered_is {Z} {R} f before after k (z ∷ zs) each =
    let here : k + 0 ≡ k = omega arith in
    ap₂ (λ (first : R) (more : List R). first ∷ more) (ap (λ (n : ℕ). f n (before z)) (sym here) ∙ each 0 z refl)
    (numbered_is f before after (suc k) zs (λ n other at.
    let next : suc k + n ≡ k + suc n = omega arith in
    ap (λ (m : ℕ). f m (before other)) next ∙ each (suc n) other at))

-- what is found passes the test, and one is found where any passes it
pub found_passes : {X : Type 0} (test : X → Bool) (xs : List X) (x : X) → find test xs ≡ Some x → test x ≡ true
found_passes test [] x found = absurd (none-some x found)
found_passes {X} test (first ∷ xs) x found = by (test first) refl found (found_passes test xs x)
  where
    by : (passes : Bool) → test first ≡ passes → cond passes (Some first) (find test xs) ≡ Some x → (find test xs ≡ Some x → test x ≡ true) → test x ≡ true
    by true is found later = ap test (sym (same_Some first x found)) ∙ is
    by false is found later = later found

found_one : {X : Type 0} (test : X → Bool) (xs : List X) → list_any test xs ≡ true → find test xs ≡ None → ⊥
found_one test [] any none = absurd (cc)
found_one {X} test (first ∷ xs) any none = by (test first) any none (found_one test xs)
  where
    by : (passes : Bool) → (passes || list_any test xs) ≡ true → cond passes (Some first) (find test xs) ≡ None
        → (list_any test xs ≡ true → find test xs ≡ None → ⊥) → ⊥
    by true any none later = absurd (cc)
    by false any none later = later any none

-- ---- boxes

-- a box that is loaded is there
is_there : (bank : List Seen) (n : ℕ) (setting : Setting) → (box_at bank n).setting ≡ Some setting → n < length bank
is_there [] n setting loaded = absurd (none-some setting loaded)
is_there (box ∷ bank) zero setting loaded = omega arith
is_there (box ∷ bank) (suc n) setting loaded = let rest = is_there bank n setting loaded in omega (arith, rest)

-- a box with a setting, in a state
abbrev box_in : Setting → CtlState → Seen
box_in setting state = record { kind = kind_of setting; setting = Some setting; state = state }

steps_state : (setting : Setting) (state : CtlState) (sample : Option Sample)
    → stepped_by sample (box_in setting state) ≡ box_in setting (stepped_state setting sample state)
steps_state setting state None = refl
steps_state setting state (Some sample) = refl

with_is_cons : (output : Option ℤ) (outputs : List ℤ) → with_output output outputs ≡ cons_option output outputs
with_is_cons None outputs = refl
with_is_cons (Some output) outputs = refl

module _ (past : List Step) (sensors : LiveSensors) (view : ZonesView) (stand : ZonesStand view sensors past)
    (known : (name : List ℕ) → sensor_in sensors name ≡ sensor_now past name)
    (there : AllByRecursion (λ (control : LiveControl). has_id (live_now past) control.id ≡ true) (controls (live_now past)))
    (there_zones : AllByRecursion (λ (zone : LiveZone). has_id (live_now past) zone.id ≡ true) (zones (live_now past)))
    (there_fans : AllByRecursion (λ (fan : LiveFan). has_id (live_now past) fan.id ≡ true) (fans (live_now past)))
    (placed : AllByRecursion (λ (control : LiveControl). list_any (is_named control.item.zone) (zones (live_now past)) ≡ true) (controls (live_now past)))
    (apart : AreApart (zones (live_now past))) where
  abbrev now : ℕ
  now = next_tick past

  abbrev slots : List (Option Sensor)
  slots = sensors.slots

  abbrev all : List LiveZone
  all = zones (live_now past)

  abbrev warm : Held → Option Sample
  warm = thermal_sample slots now

  abbrev bank : List Seen
  bank = thermal_bank slots now view

  abbrev rows : List ZoneRow
  rows = zone_rows_after slots now view

  abbrev blow : Held → Option Sample
  blow = fan_sample slots now rows

  abbrev bank_then : List Seen
  bank_then = bank_after slots now view

  -- what is known of a controller and how it is held
  record Knows (control : LiveControl) (held : Held) : Type 0 where
    holds : Holds view.zone_rows sensors view.bank past control held
    lives : has_id (live_now past) control.id ≡ true
    stands : list_any (is_named control.item.zone) all ≡ true
    warmed : box_at bank held.number ≡ stepped_by (warm held) (box_at view.bank held.number)
    blown : box_at bank_then held.number ≡ stepped_by (blow held) (box_at bank held.number)

  within : (cs : List LiveControl) (hs : List Held) → Paired (Holds view.zone_rows sensors view.bank past) cs hs
      → AllByRecursion (λ (held : Held). held.number < length view.bank) hs
  within [] [] pairs = tt
  within [] (held ∷ hs) pairs = absurd pairs
  within (control ∷ cs) [] pairs = absurd pairs
  within (control ∷ cs) (held ∷ hs) pairs =
      (is_there view.bank held.number control.item.setting (ap (λ (box : Seen). box.setting) pairs.0.box), within cs hs pairs.1)

  in_bank : All (λ (held : Held). held.number < length view.bank) view.held
  in_bank = all_of _ view.held (within (controls (live_now past)) view.held stand.held)

  in_warm : All (λ (held : Held). held.number < length bank) view.held
  in_warm = λ n held place. let same = length-pass warm view.held view.bank in let here = in_bank n held place in omega (arith, same, here)

  owns : AllByRecursion (λ (held : Held). (box_at bank held.number ≡ stepped_by (warm held) (box_at view.bank held.number))
      × (box_at bank_then held.number ≡ stepped_by (blow held) (box_at bank held.number))) view.held
  owns = by_place _ view.held (λ n held at.
      (pass_own warm view.held view.bank n held stand.apart in_bank at, pass_own blow view.held bank n held stand.apart in_warm at))

  knows : Paired Knows (controls (live_now past)) view.held
  knows =
      paired_with (λ (control : LiveControl). (has_id (live_now past) control.id ≡ true) × (list_any (is_named control.item.zone) all ≡ true)) _
      (Holds view.zone_rows sensors view.bank past) Knows (controls (live_now past)) view.held (both (controls (live_now past)) there placed) owns stand.held
      (λ control held facts own holds. record { holds = holds; lives = facts.0; stands = facts.1; warmed = own.0; blown = own.1 })
    where
      both : (cs : List LiveControl) → AllByRecursion (λ (control : LiveControl). has_id (live_now past) control.id ≡ true) cs
          → AllByRecursion (λ (control : LiveControl). list_any (is_named control.item.zone) all ≡ true) cs
          → AllByRecursion (λ (control : LiveControl). (has_id (live_now past) control.id ≡ true) × (list_any (is_named control.item.zone) all ≡ true)) cs
      both [] one other = tt
      both (control ∷ cs) one other = ((one.0, other.0), both cs one.1 other.1)

  -- ---- one controller

  module _ (control : LiveControl) (held : Held) (k : Knows control held) where
    abbrev setting : Setting
    setting = control.item.setting

    role : held.role ≡ role_of setting
    role = ap (λ (held : Held). held.role) k.holds.names

    inputs : map (sensor_of slots) held.inputs ≡ inputs_now past control
    inputs = ap (λ (held : Held). map (sensor_of slots) held.inputs) k.holds.names ∙ inputs_are sensors past known control.item.inputs

    warm_is : warm held ≡ thermal_sample_now control past
    warm_is = λ i. thermal_sample_at (thermal_setpoint (role i)) (nat_eq (k.holds.age i) 0) (input_of (role i) (goods now (inputs i)))

    -- its zone, by number
    number : (n : ℕ) × (zone_number 0 control.item.zone all ≡ Some n)
    number = has_number 0 control.item.zone all k.stands

    at : IsNumber 0 number.0 control.item.zone all
    at = zone_at 0 number.0 control.item.zone all number.1

    zone_is : held.zone ≡ number.0
    zone_is =
        ap (λ (held : Held). held.zone) k.holds.names
        ∙ ap (λ (rows : List ZoneRow). unwrap_or (zone_of rows control.item.zone) 0) stand.zone_rows
        ∙ ap (λ (n : Option ℕ). unwrap_or n 0) (number_is (zone_now past) (zone_name past) 0 control.item.zone all ∙ number.1)

    zone_found : slice_get all held.zone ≡ zone_named past control.item.zone
    zone_found = let is = at.is in ap (slice_get all) (zone_is ∙ omega (arith, is)) ∙ at.found

    -- whether it is in the zone with a number
    in_zone : (n : ℕ) (zone : LiveZone) → slice_get all n ≡ Some zone → nat_eq held.zone n ≡ bytes_eq control.item.zone zone.name
    in_zone n zone at_n =
        let none : 0 + n ≡ n = omega arith in
        ap (λ (m : ℕ). nat_eq m n) zone_is ∙ ap (nat_eq number.0) (sym none)
        ∙ same_zone 0 number.0 n control.item.zone all zone apart number.1 at_n

    -- ---- the thermal pass

    warmed_is : box_at bank held.number ≡ box_in setting (stepped_state setting (thermal_sample_now control past) (state_now control past))
    warmed_is = k.warmed ∙ ap₂ stepped_by warm_is k.holds.box ∙ steps_state setting (state_now control past) (thermal_sample_now control past)

    thermal_next : thermal_state control (Tick ∷ past) ≡ stepped_state setting (thermal_sample_now control past) (thermal_state control past)
    thermal_next = since_live blank _ control.id Tick past k.lives

    fan_next : fan_state control (Tick ∷ past) ≡ stepped_state setting (fan_sample_now control past) (fan_state control past)
    fan_next = since_live blank _ control.id Tick past k.lives

    warmed_state : is_thermal control ≡ true → (box_at bank held.number).state ≡ thermal_state control (Tick ∷ past)
    warmed_state thermal =
        ap (λ (box : Seen). box.state) warmed_is
        ∙ ap (λ (b : Bool). stepped_state setting (thermal_sample_now control past) (cond b (thermal_state control past) (fan_state control past))) thermal
        ∙ sym thermal_next

    output_is : (n : ℕ) (zone : LiveZone) → slice_get all n ≡ Some zone → thermal_output n bank held ≡ zone_output past zone.name control
    output_is n zone at_n =
        ap₂ (λ (own thermal : Bool). cond (own && thermal) (output_of bank held) None) (in_zone n zone at_n)
        (ap (λ (role : Role). is_some (thermal_setpoint role)) role)
        ∙ by (is_thermal control) refl
      where
        by : (thermal : Bool) → is_thermal control ≡ thermal
            → cond (bytes_eq control.item.zone zone.name && thermal) (output_of bank held) None
            ≡ cond (bytes_eq control.item.zone zone.name && thermal) (thermal_state control (Tick ∷ past)).output None
        by true is = ap (λ (state : CtlState). cond (bytes_eq control.item.zone zone.name && true) state.output None) (warmed_state is)
        by false is = of (bytes_eq control.item.zone zone.name)
          where
            of : (own : Bool) → cond (own && false) (output_of bank held) None ≡ cond (own && false) (thermal_state control (Tick ∷ past)).output None
            of true = refl
            of false = refl

    bad_is : (n : ℕ) (zone : LiveZone) → slice_get all n ≡ Some zone
        → (nat_eq held.zone n && has_bad now (map (sensor_of slots) held.inputs)) ≡ (bytes_eq control.item.zone zone.name && reads_bad past control)
    bad_is n zone at_n = ap₂ (λ (own bad : Bool). own && bad) (in_zone n zone at_n) (ap (has_bad now) inputs)

  -- ---- zones

  outputs_are : (n : ℕ) (zone : LiveZone) → slice_get all n ≡ Some zone → (cs : List LiveControl) (hs : List Held) → Paired Knows cs hs
      → thermal_outputs n hs bank ≡ filter_map (zone_output past zone.name) cs
  outputs_are n zone at_n [] [] pairs = refl
  outputs_are n zone at_n [] (held ∷ hs) pairs = absurd pairs
  outputs_are n zone at_n (control ∷ cs) [] pairs = absurd pairs
  outputs_are n zone at_n (control ∷ cs) (held ∷ hs) pairs =
      with_is_cons (thermal_output n bank held) (thermal_outputs n hs bank)
      ∙ ap₂ cons_option (output_is control held pairs.0 n zone at_n) (outputs_are n zone at_n cs hs pairs.1)

  modes_are : (n : ℕ) (zone : LiveZone) → slice_get all n ≡ Some zone → (cs : List LiveControl) (hs : List Held) → Paired Knows cs hs
      → is_in_failsafe slots now n hs
      ≡ list_any (λ (control : LiveControl). bytes_eq control.item.zone zone.name && reads_bad past control) cs
  modes_are n zone at_n [] [] pairs = refl
  modes_are n zone at_n [] (held ∷ hs) pairs = absurd pairs
  modes_are n zone at_n (control ∷ cs) [] pairs = absurd pairs
  modes_are n zone at_n (control ∷ cs) (held ∷ hs) pairs =
      ap₂ (λ (first later : Bool). first || later) (bad_is control held pairs.0 n zone at_n) (modes_are n zone at_n cs hs pairs.1)

  -- what a live zone shows after the tick
  zone_then : (zone : LiveZone) → has_id (live_now past) zone.id ≡ true
      → zone_now (Tick ∷ past) zone ≡ record { name = zone.name; failsafe = in_failsafe past zone.name; setpoint = Some (setpoint_now past zone) }
  zone_then zone live = since_live _ _ zone.id Tick past live

  plan_at : (n : ℕ) (zone : LiveZone) → slice_get all n ≡ Some zone → slice_get view.zone_plans n ≡ Some (plan_of zone)
  plan_at n zone at_n =
      ap (λ (plans : List ZonePlan). slice_get plans n) stand.zone_plans ∙ slice_get-map plan_of all n ∙ ap (option_map plan_of) at_n

  row_then : (n : ℕ) (zone : LiveZone) → slice_get all n ≡ Some zone
      → zone_row slots now view.zone_plans view.held bank n (zone_now past zone) ≡ zone_now (Tick ∷ past) zone
  row_then n zone at_n =
      (λ i. record {
        name = zone_name past zone i;
        failsafe = modes_are n zone at_n (controls (live_now past)) view.held knows i;
        setpoint = Some (milli (fold int_max (ap min_thermal (plan_at n zone at_n) i)
            (outputs_are n zone at_n (controls (live_now past)) view.held knows i)));
      }) ∙ sym (zone_then zone (at_place _ all n zone there_zones at_n))

  rows_are : rows ≡ map (zone_now (Tick ∷ past)) all
  rows_are =
      ap (numbered (zone_row slots now view.zone_plans view.held bank) 0) stand.zone_rows
      ∙ numbered_is (zone_row slots now view.zone_plans view.held bank) (zone_now past) (zone_now (Tick ∷ past)) 0 all
      (λ n zone at_n.
      let none : 0 + n ≡ n = omega arith in
      ap (λ (m : ℕ). zone_row slots now view.zone_plans view.held bank m (zone_now past zone)) none ∙ row_then n zone at_n)

  -- ---- the fan pass, and what a fan is commanded

  module _ (control : LiveControl) (held : Held) (k : Knows control held) where
    -- the row of its zone
    row_is : slice_get rows held.zone ≡ option_map (zone_now (Tick ∷ past)) (zone_named past control.item.zone)
    row_is =
        ap (λ (rows : List ZoneRow). slice_get rows held.zone) rows_are ∙ slice_get-map (zone_now (Tick ∷ past)) all held.zone
        ∙ ap (option_map (zone_now (Tick ∷ past))) (zone_found control held k)

    zone_lives : (zone : LiveZone) → zone_named past control.item.zone ≡ Some zone → has_id (live_now past) zone.id ≡ true
    zone_lives zone is = at_place _ all held.zone zone there_zones (zone_found control held k ∙ is)

    setpoint_is : shown_setpoint rows held.zone ≡ option_map_or (setpoint_now past) (zone_named past control.item.zone) (milli (pos 0))
    setpoint_is = ap shown row_is ∙ by (zone_named past control.item.zone) refl
      where
        by : (zone : Option LiveZone) → zone_named past control.item.zone ≡ zone
            → shown (option_map (zone_now (Tick ∷ past)) zone) ≡ option_map_or (setpoint_now past) zone (milli (pos 0))
        by None is = refl
        by (Some zone) is = ap (λ (row : ZoneRow). unwrap_or row.setpoint (milli (pos 0))) (zone_then zone (zone_lives zone is))

    blow_is : blow held ≡ fan_sample_now control past
    blow_is = λ i.
        fan_sample_at (thermal_setpoint (role control held k i)) (input_of (role control held k i) (goods now (inputs control held k i))) (setpoint_is i)

    -- its box after the tick
    box_then : box_at bank_then held.number ≡ box_now (Tick ∷ past) control
    box_then =
        k.blown ∙ ap₂ stepped_by blow_is (warmed_is control held k)
        ∙ steps_state (setting control held k) _ (fan_sample_now control past)
        ∙ ap (box_in control.item.setting) (by (thermal_setpoint (role_of control.item.setting)) refl)
      where
        by : (setpoint : Option Milli) → thermal_setpoint (role_of control.item.setting) ≡ setpoint
            → stepped_state control.item.setting (fan_sample_now control past)
            (stepped_state control.item.setting (thermal_sample_now control past) (state_now control past))
            ≡ state_now control (Tick ∷ past)
        by None is =
            (λ i. stepped_state control.item.setting (fan_sample_now control past)
            (stepped_state control.item.setting (thermal_sample_at (is i) (nat_eq (age_of control.id past % 10) 0) (input_now past control))
            (cond (is_some (is i)) (thermal_state control past) (fan_state control past))))
            ∙ sym (fan_next control held k)
            ∙ ap (λ (setpoint : Option Milli). cond (is_some setpoint) (thermal_state control (Tick ∷ past)) (fan_state control (Tick ∷ past))) (sym is)
        by (Some setpoint) is =
            (λ i. stepped_state control.item.setting (fan_sample_at (is i) (input_now past control)
            (option_map_or (setpoint_now past) (zone_named past control.item.zone) (milli (pos 0))))
            (stepped_state control.item.setting (thermal_sample_now control past)
            (cond (is_some (is i)) (thermal_state control past) (fan_state control past))))
            ∙ sym (thermal_next control held k)
            ∙ ap (λ (setpoint : Option Milli). cond (is_some setpoint) (thermal_state control (Tick ∷ past)) (fan_state control (Tick ∷ past))) (sym is)

    -- the zone that it names
    named : (zone : LiveZone) → zone_named past control.item.zone ≡ Some zone → zone.name ≡ control.item.zone
    named zone is = (bytes_decides zone.name control.item.zone).0 (found_passes (is_named control.item.zone) all zone is)

    mode_is : is_failsafe (slice_get rows held.zone) ≡ in_failsafe past control.item.zone
    mode_is = ap is_failsafe row_is ∙ by (zone_named past control.item.zone) refl
      where
        by : (zone : Option LiveZone) → zone_named past control.item.zone ≡ zone
            → is_failsafe (option_map (zone_now (Tick ∷ past)) zone) ≡ in_failsafe past control.item.zone
        by None is = absurd (found_one (is_named control.item.zone) all k.stands is)
        by (Some zone) is =
            ap (λ (row : ZoneRow). row.failsafe) (zone_then zone (zone_lives zone is)) ∙ ap (in_failsafe past) (named zone is)

    percent_is : failsafe_percent (slice_get view.zone_plans held.zone) ≡ percent_of past control.item.zone
    percent_is =
        ap failsafe_percent (ap (λ (plans : List ZonePlan). slice_get plans held.zone) stand.zone_plans ∙ slice_get-map plan_of all held.zone
        ∙ ap (option_map plan_of) (zone_found control held k))
        ∙ by (zone_named past control.item.zone)
      where
        by : (zone : Option LiveZone)
            → failsafe_percent (option_map plan_of zone) ≡ option_map_or (λ (zone : LiveZone). zone.setting.failsafe.0) zone (pos 0)
        by None = refl
        by (Some zone) = refl

    duty_is : held_duty (is_strict past) bank_then view.zone_plans rows (Some held) ≡ duty_by past control
    duty_is = λ i. commanded (is_strict past) (mode_is i) (percent_is i) (unwrap_or (box_then i).state.output full)

    -- it is held as before, one tick older
    holds_then : Holds rows sensors bank_then (Tick ∷ past) control (aged held)
    holds_then = record { names = names; age = age; box = box_then }
      where
        zone_same : held.zone ≡ unwrap_or (zone_of rows control.item.zone) 0
        zone_same =
            zone_is control held k
            ∙ ap (λ (n : Option ℕ). unwrap_or n 0)
            (sym (number control held k).1 ∙ sym (number_is (zone_now (Tick ∷ past)) (zone_name (Tick ∷ past)) 0 control.item.zone all))
            ∙ ap (λ (rows : List ZoneRow). unwrap_or (zone_of rows control.item.zone) 0) (sym rows_are)

        names : aged held ≡ held_of rows sensors control (seat_of (aged held))
        names = λ i. record {
          id = (k.holds.names i).id;
          role = (k.holds.names i).role;
          zone = zone_same i;
          inputs = (k.holds.names i).inputs;
          number = held.number;
          age = (held.age + 1) % 10;
        }

        age : (aged held).age ≡ age_of control.id (Tick ∷ past) % 10
        age =
            let one : (age_of control.id past % 10) + 1 ≡ suc (age_of control.id past % 10) = omega arith in
            ap (λ (age : ℕ). (age + 1) % 10) k.holds.age ∙ ap (λ (age : ℕ). age % 10) one ∙ sym (suc-mod (age_of control.id past) 10)
            ∙ ap (λ (age : ℕ). age % 10) (sym (since_live 0 (λ before age. suc age) control.id Tick past k.lives))

  -- ---- fans

  -- the first controller that names a fan, by number
  abbrev Found : ℕ → Option ℕ → List Held → Option LiveControl → Type 0
  Found n first hs None = first ≡ None
  Found n first hs (Some control) = (m : ℕ) × (held : Held) × (first ≡ Some (n + m)) × (slice_get hs m ≡ Some held) × Knows control held

  found_from : (n : ℕ) (name : List ℕ) (cs : List LiveControl) (hs : List Held) → Paired Knows cs hs
      → Found n (first_from n name cs) hs (find (λ (control : LiveControl). outputs_to name control.item) cs)
  found_from n name [] [] pairs = refl
  found_from n name [] (held ∷ hs) pairs = absurd pairs
  found_from n name (control ∷ cs) [] pairs = absurd pairs
  found_from n name (control ∷ cs) (held ∷ hs) pairs = by (outputs_to name control.item) (found_from (suc n) name cs hs pairs.1)
    where
      later : (first : Option ℕ) (found : Option LiveControl) → Found (suc n) first hs found → Found n first (held ∷ hs) found
      later first None is = is
      later first (Some other) is =
          let next : suc n + is.0 ≡ n + suc is.0 = omega arith in (suc is.0, is.1, is.2 ∙ ap Some next, is.3, is.4)

      by : (outputs : Bool) → Found (suc n) (first_from (suc n) name cs) hs (find (λ (control : LiveControl). outputs_to name control.item) cs)
          → Found n (cond outputs (Some n) (first_from (suc n) name cs)) (held ∷ hs)
          (cond outputs (Some control) (find (λ (control : LiveControl). outputs_to name control.item) cs))
      by true rest = let here : n ≡ n + 0 = omega arith in (0, held, ap Some here, refl, pairs.0)
      by false rest = later _ _ rest

  fan_then : (fan : LiveFan) → has_id (live_now past) fan.id ≡ true → fan_now (Tick ∷ past) fan ≡ record { name = fan.name; duty = Some (duty_now past fan) }
  fan_then fan live = since_live _ _ fan.id Tick past live

  duty_then : (name : List ℕ) → held_duty (is_strict past) bank_then view.zone_plans rows (held_at view.held (first_from 0 name (controls (live_now past))))
      ≡ option_map_or (duty_by past) (holder_of past name) full
  duty_then name = by (first_from 0 name (controls (live_now past))) (holder_of past name) (found_from 0 name (controls (live_now past)) view.held knows)
    where
      by : (first : Option ℕ) (found : Option LiveControl) → Found 0 first view.held found
          → held_duty (is_strict past) bank_then view.zone_plans rows (held_at view.held first) ≡ option_map_or (duty_by past) found full
      by first None is = ap (λ (first : Option ℕ). held_duty (is_strict past) bank_then view.zone_plans rows (held_at view.held first)) is
      by first (Some control) is =
          let none : 0 + is.0 ≡ is.0 = omega arith in
          ap (λ (first : Option ℕ). held_duty (is_strict past) bank_then view.zone_plans rows (held_at view.held first)) (is.2 ∙ ap Some none)
          ∙ ap (held_duty (is_strict past) bank_then view.zone_plans rows) is.3 ∙ duty_is control is.1 is.4

  fan_row_then : (n : ℕ) (fan : LiveFan) → slice_get (fans (live_now past)) n ≡ Some fan
      → fan_row (is_strict past) view.held bank_then view.zone_plans rows view.fan_plans n (fan_now past fan) ≡ fan_now (Tick ∷ past) fan
  fan_row_then n fan at_n =
      (λ i. record {
        name = fan_name past fan i;
        duty = Some (milli ((ap (λ (plan : Option FanPlan).
            held_duty (is_strict past) bank_then view.zone_plans rows (held_at view.held (holder_number plan))) plan ∙ duty_then fan.name) i));
      })
      ∙ sym (fan_then fan (at_place _ (fans (live_now past)) n fan there_fans at_n))
    where
      plan : slice_get view.fan_plans n ≡ Some (fan_plan_of (controls (live_now past)) fan)
      plan =
          ap (λ (plans : List FanPlan). slice_get plans n) stand.fan_plans
          ∙ slice_get-map (fan_plan_of (controls (live_now past))) (fans (live_now past)) n ∙ ap (option_map (fan_plan_of (controls (live_now past)))) at_n

  fans_are : fan_rows_after slots now (is_strict past) view ≡ map (fan_now (Tick ∷ past)) (fans (live_now past))
  fans_are =
      ap (numbered (fan_row (is_strict past) view.held bank_then view.zone_plans rows view.fan_plans) 0) stand.fan_rows
      ∙ numbered_is (fan_row (is_strict past) view.held bank_then view.zone_plans rows view.fan_plans) (fan_now past) (fan_now (Tick ∷ past)) 0
      (fans (live_now past))
      (λ n fan at_n.
      let none : 0 + n ≡ n = omega arith in
      ap (λ (m : ℕ). fan_row (is_strict past) view.held bank_then view.zone_plans rows view.fan_plans m (fan_now past fan)) none
      ∙ fan_row_then n fan at_n)

  -- ---- all

  aged_all : (cs : List LiveControl) (hs : List Held) → Paired Knows cs hs → Paired (Holds rows sensors bank_then (Tick ∷ past)) cs (map aged hs)
  aged_all [] [] pairs = tt
  aged_all [] (held ∷ hs) pairs = absurd pairs
  aged_all (control ∷ cs) [] pairs = absurd pairs
  aged_all (control ∷ cs) (held ∷ hs) pairs = (holds_then control held pairs.0, aged_all cs hs pairs.1)

  numbers : (hs : List Held) → map number_of (map aged hs) ≡ map number_of hs
  numbers [] = refl
  numbers (held ∷ hs) = ap (λ (more : List ℕ). held.number ∷ more) (numbers hs)

  same : live_now (Tick ∷ past) ≡ live_now past
  same = live_same Tick past refl

  pub stands_ticked : ZonesStand (ticked slots now (is_strict past) view) sensors (Tick ∷ past)
  stands_ticked = record {
    zone_plans = stand.zone_plans ∙ ap (λ (live : List Item). map plan_of (zones live)) (sym same);
    zone_rows = rows_are ∙ ap (λ (live : List Item). map (zone_now (Tick ∷ past)) (zones live)) (sym same);
    fan_plans = stand.fan_plans ∙ ap (λ (live : List Item). map (fan_plan_of (controls live)) (fans live)) (sym same);
    fan_rows = fans_are ∙ ap (λ (live : List Item). map (fan_now (Tick ∷ past)) (fans live)) (sym same);
    held = subst (λ (live : List Item). Paired (Holds rows sensors bank_then (Tick ∷ past)) (controls live) (map aged view.held)) (sym same)
        (aged_all (controls (live_now past)) view.held knows);
    apart = subst Differ (sym (numbers view.held)) stand.apart;
    others = λ number free.
        let free_before : is_taken (map number_of view.held) number ≡ false = ap (λ (taken : List ℕ). is_taken taken number) (sym (numbers view.held)) ∙ free in
        let same_box : box_at bank_then number ≡ box_at view.bank number =
        pass_other blow view.held bank number free_before ∙ pass_other warm view.held view.bank number free_before in
        same_box ∙ stand.others number free_before ∙ ap (λ (box : Seen). unloaded box.kind) (sym same_box);
  }
