-- The limits of a sensor, and the alarms that they give.
use Rattle.std.specs.Prelude.{ℕ, ◌≤◌, pos, ◌+ℤ◌, ◌-ℤ◌, ◌≤ℤ◌, int_lt, int_le, unsigned_abs, Bool, not, if◌then◌else◌, List, take_while}
use Rattle.std.specs.List.{list_any}
use Rattle.bmc_base.specs.declared.milli.Milli.{Milli}
use Rattle.sensor_core.specs.declared.limit.Limit.{Limit}

-- how many thousandths a value, an offset or a hysteresis that is set has at the most
abbrev pub most_milli : ℕ
most_milli = 1000000000

-- how severe a limit is at the most
abbrev pub most_severe : ℕ
most_severe = 1

-- the numbers of a limit are in their ranges
pub record IsValidLimit (limit : Limit) : Type 0 where
  pub severe : limit.severity ≤ most_severe
  pub small : unsigned_abs limit.value.0 ≤ most_milli
  pub upward : pos 0 ≤ℤ limit.hysteresis.0
  pub narrow : unsigned_abs limit.hysteresis.0 ≤ most_milli

-- whether a value is at the limit, or beyond it
abbrev pub is_beyond : Limit → Milli → Bool
is_beyond limit value = if limit.above then int_le limit.value.0 value.0 else int_le value.0 limit.value.0

-- whether a value is back from the limit by more than the hysteresis
abbrev pub is_back : Limit → Milli → Bool
is_back limit value =
    if limit.above then int_lt value.0 (limit.value.0 -ℤ limit.hysteresis.0) else int_lt (limit.value.0 +ℤ limit.hysteresis.0) value.0

-- whether the alarm is on: one of the values since the sensor was back last is beyond the limit. The
-- newest value is first
abbrev pub is_on : Limit → List Milli → Bool
is_on limit values = list_any (is_beyond limit) (take_while (λ value. not (is_back limit value)) values)
