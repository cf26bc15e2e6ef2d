-- The rows of a tick: setpoints and modes of zones, duties of fans.
use Rattle.std.specs.Prelude.{ℕ, suc, ℤ, pos, nat_eq, Bool, true, false, ◌&&◌, if◌then◌else◌, List, [], ◌∷◌, Option, Some, None, unwrap_or, slice_get}
use Rattle.std.specs.Int.{int_max}
use Rattle.std.specs.List.{fold, list_any}
use Rattle.std.specs.Option.{is_some}
use Rattle.ctl_face.specs.Seen.{Seen}
use Rattle.fan_zone.specs.Boxes.{box_at}
use Rattle.fan_zone.specs.declared.held.Held.{Held}
use Rattle.fan_zone.specs.declared.rows.ZonePlan.{ZonePlan}
use Rattle.fan_zone.specs.declared.rows.ZoneRow.{ZoneRow}
use Rattle.fan_zone.specs.declared.rows.FanPlan.{FanPlan}
use Rattle.fan_zone.specs.declared.rows.FanRow.{FanRow}
use Rattle.sensor_core.specs.Sensors.{Sensor}
use Rattle.fan_zone.specs.Inputs.{has_bad_input}
use Rattle.fan_zone.specs.Passes.{milli, thermal_setpoint}

-- each element by its number, the first of them being n
abbrev pub numbered : {A : Type 0} → (ℕ → A → A) → ℕ → List A → List A
numbered f n [] = []
numbered f n (x ∷ xs) = f n x ∷ numbered f (suc n) xs

-- the last output of a controller
abbrev pub output_of : List Seen → Held → Option ℤ
output_of bank held = (box_at bank held.number).state.output

abbrev pub with_output : Option ℤ → List ℤ → List ℤ
with_output None outputs = outputs
with_output (Some output) outputs = output ∷ outputs

-- the greater one, if there is a second
abbrev pub raised : ℤ → Option ℤ → ℤ
raised best None = best
raised best (Some output) = int_max best output

-- whether it is a thermal controller of this zone
abbrev pub is_thermal_of : ℕ → Held → Bool
is_thermal_of zone held = nat_eq held.zone zone && is_some (thermal_setpoint held.role)

-- its last output, if it is one
abbrev pub thermal_output : ℕ → List Seen → Held → Option ℤ
thermal_output zone bank held = if is_thermal_of zone held then output_of bank held else None

-- the last outputs of the thermal controllers of a zone
abbrev pub thermal_outputs : ℕ → List Held → List Seen → List ℤ
thermal_outputs zone [] bank = []
thermal_outputs zone (held ∷ more) bank = with_output (thermal_output zone bank held) (thermal_outputs zone more bank)

-- the greatest of MinThermalOutput and these outputs
abbrev pub setpoint_of : ℤ → ℕ → List Held → List Seen → ℤ
setpoint_of low zone held bank = fold int_max low (thermal_outputs zone held bank)

-- whether an input of one of the controllers of the zone is bad
abbrev pub is_in_failsafe : List (Option Sensor) → ℕ → ℕ → List Held → Bool
is_in_failsafe slots now zone held = list_any (λ (one : Held). nat_eq one.zone zone && has_bad_input slots now one.inputs) held

abbrev pub min_thermal : Option ZonePlan → ℤ
min_thermal None = pos 0
min_thermal (Some plan) = plan.setting.min_thermal.0

abbrev pub failsafe_percent : Option ZonePlan → ℤ
failsafe_percent None = pos 0
failsafe_percent (Some plan) = plan.setting.failsafe.0

abbrev pub zone_row : List (Option Sensor) → ℕ → List ZonePlan → List Held → List Seen → ℕ → ZoneRow → ZoneRow
zone_row slots now plans held bank zone row = record {
  name = row.name;
  failsafe = is_in_failsafe slots now zone held;
  setpoint = Some (milli (setpoint_of (min_thermal (slice_get plans zone)) zone held bank));
}

-- what a fan is commanded: in failsafe the greater of the output and FailSafePercent, in strict mode exactly this
abbrev pub commanded : Bool → Bool → ℤ → ℤ → ℤ
commanded strict false percent output = output
commanded false true percent output = int_max output percent
commanded true true percent output = percent

abbrev pub is_failsafe : Option ZoneRow → Bool
is_failsafe None = false
is_failsafe (Some row) = row.failsafe

-- the fan runs fully where no controller holds it
abbrev pub full : ℤ
full = pos 100000

abbrev pub held_duty : Bool → List Seen → List ZonePlan → List ZoneRow → Option Held → ℤ
held_duty strict bank plans rows None = full
held_duty strict bank plans rows (Some held) =
    commanded strict (is_failsafe (slice_get rows held.zone)) (failsafe_percent (slice_get plans held.zone)) (unwrap_or (output_of bank held) full)

abbrev pub holder_number : Option FanPlan → Option ℕ
holder_number None = None
holder_number (Some plan) = plan.holder

abbrev pub held_at : List Held → Option ℕ → Option Held
held_at held None = None
held_at held (Some n) = slice_get held n

-- the controller that holds a fan
abbrev pub holder : List FanPlan → List Held → ℕ → Option Held
holder plans held fan = held_at held (holder_number (slice_get plans fan))

abbrev pub fan_row : Bool → List Held → List Seen → List ZonePlan → List ZoneRow → List FanPlan → ℕ → FanRow → FanRow
fan_row strict held bank zone_plans zone_rows fan_plans fan row = record {
  name = row.name;
  duty = Some (milli (held_duty strict bank zone_plans zone_rows (holder fan_plans held fan)));
}
