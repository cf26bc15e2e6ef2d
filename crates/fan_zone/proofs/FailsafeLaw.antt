-- After each tick the fans of a zone with a bad input have at least its percent.
use Rattle.std.proofs.Common.{◌≡◌, ℕ, zero, suc, ◌+◌, ◌<◌, ◌≤ℤ◌, ℤ, Bool, true, false, ◌&&◌, ◌||◌, List, [], ◌∷◌, length, map, Option, Some, None}
use Rattle.std.proofs.Common.{option_map, slice_get, refl, ap, sym, ◌∙◌, subst, arith, unwrap_or, nat_eq}
use Rattle.std.proofs.lemmas.Option.{slice_get-map, same_Some, none-some}
use Rattle.std.proofs.lemmas.Int.{ints, int_max_is}
use Rattle.std.specs.Int.{int_max}
use Rattle.ctl_face.specs.Seen.{Seen}
use Rattle.fan_zone.specs.declared.held.Held.{Held}
use Rattle.fan_zone.specs.declared.rows.ZonePlan.{ZonePlan}
use Rattle.fan_zone.specs.declared.rows.ZoneRow.{ZoneRow}
use Rattle.fan_zone.specs.declared.rows.FanPlan.{FanPlan}
use Rattle.fan_zone.specs.declared.rows.FanRow.{FanRow}
use Rattle.sensor_core.specs.Sensors.{Sensor}
use Rattle.fan_zone.specs.Inputs.{has_bad_input}
use Rattle.fan_zone.specs.Passes.{milli}
use Rattle.fan_zone.specs.Rows.{numbered, zone_row, fan_row, holder, holder_number, held_at, held_duty, is_in_failsafe, is_failsafe, failsafe_percent}
use Rattle.fan_zone.specs.Rows.{commanded, output_of, full}
use Rattle.fan_zone.specs.Ticks.{ZonesView, aged, ticked, thermal_bank, bank_after, zone_rows_after}
use Rattle.fan_zone.specs.Failsafe.{IsSafe, IsFailsafe, duty_in}
use Rattle.fan_zone.specs.Sound.{AreInZones}
use Rattle.fan_zone.proofs.Numbered.{get-numbered, all_at}

pub max_above : (a b : ℤ) → b ≤ℤ int_max a b
max_above a b = omega (arith, ints, int_max_is a b)

-- modes read no ages
pub failsafe_aged : (slots : List (Option Sensor)) (now zone : ℕ) (held : List Held)
    → is_in_failsafe slots now zone (map aged held) ≡ is_in_failsafe slots now zone held
failsafe_aged slots now zone [] = refl
failsafe_aged slots now zone (one ∷ more) = ap (λ (b : Bool). (nat_eq one.zone zone && has_bad_input slots now one.inputs) || b)
    (failsafe_aged slots now zone more)

-- what stands at a place of the aged list
pub record WasAt (held : List Held) (n : Option ℕ) (one : Held) : Type 0 where
  pub before : Held
  pub is : one ≡ aged before
  pub at : held_at held n ≡ Some before

some_before : (o : Option Held) (one : Held) → option_map aged o ≡ Some one → (before : Held) × (one ≡ aged before) × (o ≡ Some before)
some_before None one e = absurd (none-some one e)
some_before (Some before) one e = (before, sym (same_Some (aged before) one e), refl)

pub was_at : (held : List Held) (n : Option ℕ) (one : Held) → held_at (map aged held) n ≡ Some one → WasAt held n one
was_at held None one e = absurd (none-some one e)
was_at held (Some n) one e =
    let w = some_before (slice_get held n) one (sym (slice_get-map aged held n) ∙ e) in
    record { before = w.0; is = w.1; at = w.2 }

-- a command in failsafe
pub commands_failsafe : (strict : Bool) (percent output : ℤ) → IsSafe strict percent (Some (milli (commanded strict true percent output)))
commands_failsafe false percent output = (max_above output percent, λ e. absurd (cc))
commands_failsafe true percent output = (omega (arith, ints), λ e. refl)

-- what a row shows after it was written
shown_failsafe : (f : ZoneRow → ZoneRow) (b : Bool) → ((row : ZoneRow) → (f row).failsafe ≡ b) → (rows : List ZoneRow) (n : ℕ) → n < length rows
    → is_failsafe (option_map f (slice_get rows n)) ≡ b
shown_failsafe f b all [] n lt = absurd (omega arith)
shown_failsafe f b all (row ∷ rows) zero lt = all row
shown_failsafe f b all (row ∷ rows) (suc n) lt = shown_failsafe f b all rows n (omega arith)

-- the mode of a zone after the tick
pub zone_shows : (slots : List (Option Sensor)) (now : ℕ) (old : ZonesView) (zone : ℕ) → zone < length old.zone_rows
    → is_failsafe (slice_get (zone_rows_after slots now old) zone) ≡ is_in_failsafe slots now zone old.held
zone_shows slots now old zone lt =
    let f = zone_row slots now old.zone_plans old.held (thermal_bank slots now old) in
    let none : 0 + zone ≡ zone = omega arith in
    ap is_failsafe (get-numbered f 0 old.zone_rows zone)
    ∙ (shown_failsafe (f (0 + zone)) _ (λ row. refl) old.zone_rows zone lt ∙ ap (λ (z : ℕ). is_in_failsafe slots now z old.held) none)

-- what a fan is commanded after it was written
shown_duty : (f : FanRow → FanRow) (strict : Bool) (percent : ℤ) → ((row : FanRow) → IsSafe strict percent (f row).duty) → (rows : List FanRow) (n : ℕ)
    → n < length rows → IsSafe strict percent (duty_in (option_map f (slice_get rows n)))
shown_duty f strict percent all [] n lt = absurd (omega arith)
shown_duty f strict percent all (row ∷ rows) zero lt = all row
shown_duty f strict percent all (row ∷ rows) (suc n) lt = shown_duty f strict percent all rows n (omega arith)

commands_held : (strict : Bool) (bank : List Seen) (plans : List ZonePlan) (rows : List ZoneRow) (o : Option Held) (one : Held) → o ≡ Some one
    → is_failsafe (slice_get rows one.zone) ≡ true
    → IsSafe strict (failsafe_percent (slice_get plans one.zone)) (Some (milli (held_duty strict bank plans rows o)))
commands_held strict bank plans rows o one e bad =
    let percent = failsafe_percent (slice_get plans one.zone) in
    let output = unwrap_or (output_of bank one) full in
    let duty : held_duty strict bank plans rows o ≡ commanded strict true percent output =
    ap (held_duty strict bank plans rows) e ∙ ap (λ (b : Bool). commanded strict b percent output) bad in
    subst (λ (d : ℤ). IsSafe strict percent (Some (milli d))) (sym duty) (commands_failsafe strict percent output)

in_zones : (rows : List ZoneRow) (held : List Held) (n : Option ℕ) (one : Held) → AreInZones rows held → held_at held n ≡ Some one → one.zone < length rows
in_zones rows held None one zones e = absurd (none-some one e)
in_zones rows held (Some n) one zones e = all_at (λ (h : Held). h.zone < length rows) held n one zones e

-- a fan that a controller holds has a plan
planned : (plans : List FanPlan) (held : List Held) (fan : ℕ) (one : Held) → holder plans held fan ≡ Some one → fan < length plans
planned [] held fan one e = absurd (none-some one e)
planned (plan ∷ plans) held zero one e = omega arith
planned (plan ∷ plans) held (suc fan) one e =
    let rest = planned plans held fan one e in
    omega (arith, rest)

pub ticked_failsafe : (slots : List (Option Sensor)) (now : ℕ) (strict : Bool) (old : ZonesView) → AreInZones old.zone_rows old.held → length old.fan_plans
    ≡ length old.fan_rows → IsFailsafe slots now strict (ticked slots now strict old)
ticked_failsafe slots now strict old zones fans = λ fan one e bad.
    let w = was_at old.held (holder_number (slice_get old.fan_plans fan)) one e in
    let bank = bank_after slots now old in
    let rows = zone_rows_after slots now old in
    let f = fan_row strict old.held bank old.zone_plans rows old.fan_plans in
    let within : fan < length old.fan_rows = omega (arith, planned old.fan_plans (map aged old.held) fan one e, fans) in
    let zone : one.zone ≡ w.before.zone = ap (λ (h : Held). h.zone) w.is in
    let in_zone : w.before.zone < length old.zone_rows = in_zones old.zone_rows old.held (holder_number (slice_get old.fan_plans fan)) w.before zones w.at in
    let was_bad : is_in_failsafe slots now w.before.zone old.held ≡ true =
    ap (λ (z : ℕ). is_in_failsafe slots now z old.held) (sym zone) ∙ (sym (failsafe_aged slots now one.zone old.held) ∙ bad) in
    let shown : is_failsafe (slice_get rows w.before.zone) ≡ true = zone_shows slots now old w.before.zone in_zone ∙ was_bad in
    let none : 0 + fan ≡ fan = omega arith in
    let at : holder old.fan_plans old.held (0 + fan) ≡ Some w.before = ap (λ (n : ℕ). holder old.fan_plans old.held n) none ∙ w.at in
    let percent = λ (z : ℕ). failsafe_percent (slice_get old.zone_plans z) in
    let all : (row : FanRow) → IsSafe strict (percent w.before.zone) (f (0 + fan) row).duty =
    λ row. commands_held strict bank old.zone_plans rows (holder old.fan_plans old.held (0 + fan)) w.before at shown in
    let there : IsSafe strict (percent w.before.zone) (duty_in (option_map (f (0 + fan)) (slice_get old.fan_rows fan))) =
    shown_duty (f (0 + fan)) strict (percent w.before.zone) all old.fan_rows fan within in
    let here = subst (λ (o : Option FanRow). IsSafe strict (percent w.before.zone) (duty_in o)) (sym (get-numbered f 0 old.fan_rows fan)) there in
    subst (λ (z : ℕ). IsSafe strict (percent z) (duty_in (slice_get (numbered f 0 old.fan_rows) fan))) (sym zone) here
