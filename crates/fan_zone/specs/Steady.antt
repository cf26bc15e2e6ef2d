-- Until when the inputs of controllers are good, and the rows of zones that stay as they are meanwhile.
use Rattle.std.specs.Prelude.{◌≡◌, ℕ, ◌≤◌, nat_eq, Bool, false, min, List, Option, None, Some, slice_get}
use Rattle.std.specs.List.{list_any}
use Rattle.ctl_face.specs.Seen.{Seen}
use Rattle.fan_zone.specs.declared.held.Held.{Held}
use Rattle.fan_zone.specs.declared.rows.ZonePlan.{ZonePlan}
use Rattle.fan_zone.specs.declared.rows.ZoneRow.{ZoneRow}
use Rattle.sensor_core.specs.Sensors.{Sensor}
use Rattle.fan_zone.specs.Inputs.{has_bad_input}
use Rattle.fan_zone.specs.Passes.{milli}
use Rattle.fan_zone.specs.Rows.{min_thermal, numbered, setpoint_of, zone_row}
use Rattle.fan_zone.specs.Sound.{AreSmallRows}
use Rattle.fan_zone.specs.Ticks.{ZonesView}

-- whether an input of one of some controllers is bad at a tick
abbrev pub has_bad_input_now : List (Option Sensor) → ℕ → List Held → Bool
has_bad_input_now slots now held = list_any (λ (one : Held). has_bad_input slots now one.inputs) held

-- the earlier one of two ticks, if there are both
abbrev pub earlier : Option ℕ → Option ℕ → Option ℕ
earlier None other = None
earlier (Some one) None = None
earlier (Some one) (Some other) = Some (min one other)

-- up to this tick no input of some controllers is bad, where the sensors stay as they are
abbrev pub IsGoodUntil : List (Option Sensor) → ℕ → List Held → Type 0
IsGoodUntil slots last held = (later : ℕ) → later ≤ last → has_bad_input_now slots later held ≡ false

-- whether one of some controllers is at the first of ten ticks of its run
abbrev pub is_due : List Held → Bool
is_due held = list_any (λ (one : Held). nat_eq one.age 0) held

-- these are the rows that a tick shows, when the thermal controllers have stepped
pub record AreShown (slots : List (Option Sensor)) (now : ℕ) (plans : List ZonePlan) (held : List Held) (bank : List Seen) (rows : List ZoneRow) : Type 0
  where
    pub rows_are : rows ≡ numbered (zone_row slots now plans held bank) 0 rows
    pub small : AreSmallRows rows

-- the row of a zone none of whose inputs is bad
abbrev pub steady_row : List ZonePlan → List Held → List Seen → ℕ → ZoneRow → ZoneRow
steady_row plans held bank zone row = record {
  name = row.name;
  failsafe = false;
  setpoint = Some (milli (setpoint_of (min_thermal (slice_get plans zone)) zone held bank));
}

-- zones show no failsafe, and the setpoints that their controllers give
pub record IsSteady (view : ZonesView) : Type 0 where
  pub rows_are : view.zone_rows ≡ numbered (steady_row view.zone_plans view.held view.bank) 0 view.zone_rows
  pub small : AreSmallRows view.zone_rows
