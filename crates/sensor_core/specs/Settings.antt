-- The settings of a sensor.
use Rattle.std.specs.Prelude.{ℕ, ◌≤◌, ℤ, pos, ◌+ℤ◌, ◌*ℤ◌, ◌≤ℤ◌, unsigned_abs, List, take, All}
use Rattle.std.specs.Int.{int_div_euclid}
use Rattle.bmc_base.specs.declared.milli.Milli.{Milli}
use Rattle.sensor_core.specs.declared.limit.Limit.{Limit}
use Rattle.sensor_core.specs.declared.setting.SensorSetting.{SensorSetting}
use Rattle.sensor_core.specs.Limits.{most_milli, IsValidLimit}

-- how large a factor, a divisor or a timeout is at the most
abbrev pub most_scale : ℕ
most_scale = 1000000

-- how many limits a sensor has at the most
abbrev pub most_limits : ℕ
most_limits = 8

-- how large a raw number is at the most
abbrev pub most_raw : ℕ
most_raw = 1000000000

-- the limits that are in use
abbrev pub limits_of : SensorSetting → List Limit
limits_of setting = take setting.count setting.limits

-- the numbers by which a raw number becomes a value are in their ranges
pub record IsValidScale (setting : SensorSetting) : Type 0 where
  pub factor : unsigned_abs setting.num ≤ most_scale
  pub divides : pos 1 ≤ℤ setting.den
  pub divisor : unsigned_abs setting.den ≤ most_scale
  pub shift : unsigned_abs setting.offset.0 ≤ most_milli

-- all numbers of a setting are in their ranges; those of limits that are not in use may be any
pub record IsValidSetting (setting : SensorSetting) : Type 0 where
  pub scale : IsValidScale setting
  pub patience : setting.timeout ≤ most_scale
  pub few : setting.count ≤ most_limits
  pub limits : All IsValidLimit (limits_of setting)

-- a raw number is in its range
abbrev pub IsRaw : ℤ → Type 0
IsRaw raw = unsigned_abs raw ≤ most_raw

-- what comes of a raw number by the factor and the divisor. The divisor is above zero, so it is rounded down
abbrev pub quotient_of : SensorSetting → ℤ → ℤ
quotient_of setting raw = int_div_euclid (raw *ℤ setting.num) setting.den

-- the value of a raw number
abbrev pub value_of : SensorSetting → ℤ → Milli
value_of setting raw = record { 0 = quotient_of setting raw +ℤ setting.offset.0 }
