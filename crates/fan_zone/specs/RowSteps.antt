-- The row of a zone as far as the walk over the controllers has come, and the duty that the fans of a holder get.
use Rattle.std.specs.Prelude.{◌≡◌, ℕ, ℤ, Bool, false, ◌||◌, List, Option, Some, option_map, slice_get}
use Rattle.bmc_base.specs.declared.milli.Milli.{Milli}
use Rattle.ctl_face.specs.Seen.{Seen}
use Rattle.fan_zone.specs.declared.held.Held.{Held}
use Rattle.fan_zone.specs.declared.rows.ZonePlan.{ZonePlan}
use Rattle.fan_zone.specs.declared.rows.ZoneRow.{ZoneRow}
use Rattle.sensor_core.specs.Sensors.{Sensor}
use Rattle.fan_zone.specs.Inputs.{has_bad_input}
use Rattle.fan_zone.specs.Passes.{milli}
use Rattle.fan_zone.specs.Rows.{raised, thermal_output, min_thermal, held_at, held_duty}

-- no controller of the zone was seen yet
abbrev pub bare_row : List ZonePlan → ℕ → ZoneRow → ZoneRow
bare_row plans zone row = record { name = row.name; failsafe = false; setpoint = Some (milli (min_thermal (slice_get plans zone))) }

-- the row of the zone of a controller, with this one more
abbrev pub with_held : List (Option Sensor) → ℕ → List Seen → Held → ZoneRow → ZoneRow
with_held slots now bank held row = record {
  name = row.name;
  failsafe = row.failsafe || has_bad_input slots now held.inputs;
  setpoint = option_map (λ (best : Milli). milli (raised best.0 (thermal_output held.zone bank held))) row.setpoint;
}

-- this is the duty of the fans of a holder
abbrev pub IsCommanded : Bool → List Seen → List ZonePlan → List ZoneRow → List Held → Option ℕ → ℤ → Type 0
IsCommanded strict bank plans rows held holder duty = duty ≡ held_duty strict bank plans rows (held_at held holder)
