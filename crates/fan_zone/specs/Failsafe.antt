-- What holds after each tick, whatever was before it.
use Rattle.std.specs.Prelude.{◌≡◌, ℕ, ℤ, ◌≤ℤ◌, Bool, true, List, Option, Some, None, slice_get}
use Rattle.bmc_base.specs.declared.milli.Milli.{Milli}
use Rattle.sensor_core.specs.Sensors.{Sensor}
use Rattle.fan_zone.specs.declared.held.Held.{Held}
use Rattle.fan_zone.specs.declared.rows.FanRow.{FanRow}
use Rattle.fan_zone.specs.Rows.{holder, is_in_failsafe, failsafe_percent}
use Rattle.fan_zone.specs.Ticks.{ZonesView}

abbrev pub duty_in : Option FanRow → Option Milli
duty_in None = None
duty_in (Some row) = row.duty

-- the duty of the fan with a number
abbrev pub duty_of : ZonesView → ℕ → Option Milli
duty_of view fan = duty_in (slice_get view.fan_rows fan)

-- the FailSafePercent of the zone with a number
abbrev pub percent_of : ZonesView → ℕ → ℤ
percent_of view zone = failsafe_percent (slice_get view.zone_plans zone)

-- the controller that holds the fan with a number
abbrev pub holder_of : ZonesView → ℕ → Option Held
holder_of view fan = holder view.fan_plans view.held fan

-- whether an input of a controller of the zone with a number is bad
abbrev pub has_bad_input_in : List (Option Sensor) → ℕ → ZonesView → ℕ → Bool
has_bad_input_in slots now view zone = is_in_failsafe slots now zone view.held

-- a duty is given, which is at least the percent, and in strict mode exactly that
abbrev pub IsSafe : Bool → ℤ → Option Milli → Type 0
IsSafe strict percent None = ⊥
IsSafe strict percent (Some duty) = (percent ≤ℤ duty.0) × (strict ≡ true → duty.0 ≡ percent)

-- where an input of a controller of a zone is bad, each fan that a controller of this zone holds runs at least at the
-- FailSafePercent of the zone, and in strict mode exactly there
abbrev pub IsFailsafe : List (Option Sensor) → ℕ → Bool → ZonesView → Type 0
IsFailsafe slots now strict view =
    (fan : ℕ) (controller : Held) → holder_of view fan ≡ Some controller → has_bad_input_in slots now view controller.zone ≡ true
    → IsSafe strict (percent_of view controller.zone) (duty_of view fan)
