-- The input of a step as far as a walk over the inputs has come.
use Rattle.std.specs.Prelude.{ℤ, if◌then◌else◌, List, filter, Option, Some, None}
use Rattle.std.specs.Int.{int_max, int_min}
use Rattle.std.specs.List.{fold}
use Rattle.bmc_base.specs.declared.milli.Milli.{Milli}
use Rattle.fan_zone.specs.declared.held.Role.{Role}
use Rattle.fan_zone.specs.declared.held.Role.TheVariants.{Fan, Temp, Margin}
use Rattle.fan_zone.specs.Inputs.{extreme, is_positive}

-- the extreme of what was seen and of more
abbrev pub extreme_from : (ℤ → ℤ → ℤ) → Option ℤ → List ℤ → Option ℤ
extreme_from pick None values = extreme pick values
extreme_from pick (Some best) values = Some (fold pick best values)

abbrev pub input_from : Role → Option ℤ → List ℤ → Option ℤ
input_from Fan best values = extreme_from int_min best (filter is_positive values)
input_from (Temp setpoint) best values = extreme_from int_max best values
input_from (Margin setpoint) best values = extreme_from int_min best values

abbrev pub better_by : (ℤ → ℤ → ℤ) → Option ℤ → ℤ → Option ℤ
better_by pick None value = Some value
better_by pick (Some best) value = Some (pick best value)

-- with one more value
abbrev pub better : Role → Option ℤ → ℤ → Option ℤ
better Fan best value = if is_positive value then better_by int_min best value else best
better (Temp setpoint) best value = better_by int_max best value
better (Margin setpoint) best value = better_by int_min best value

abbrev pub better_with : Role → Option ℤ → Option Milli → Option ℤ
better_with role best None = best
better_with role best (Some value) = better role best value.0
