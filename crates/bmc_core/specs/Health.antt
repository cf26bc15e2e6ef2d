-- What is known of the inputs of controllers between ticks.
use Rattle.std.specs.Prelude.{ℕ, ◌+◌, ◌==◌, min, nat_le, Bool, false, not, ◌&&◌, if◌then◌else◌, List, Option}
use Rattle.bmc_base.specs.Counts.{last_count}
use Rattle.bmc_core.specs.declared.input_health.InputHealth.{InputHealth}
use Rattle.bmc_core.specs.declared.input_health.InputHealth.TheVariants as known
use Rattle.fan_zone.specs.declared.held.Held.{Held}
use Rattle.fan_zone.specs.Steady.{IsGoodUntil}
use Rattle.sensor_core.specs.Sensors.{Sensor, has_failed, is_bad}

-- what is known is true of these controllers, where these are the sensors
abbrev pub IsTrueOf : List (Option Sensor) → List Held → InputHealth → Type 0
IsTrueOf slots held known.Unknown = Unit {0}
IsTrueOf slots held known.Unasked = Unit {0}
IsTrueOf slots held known.Bad = Unit {0}
IsTrueOf slots held (known.GoodUntil last) = IsGoodUntil slots last held

-- the last tick at which a sensor with this timeout is good that was read now; where it has none, the last one that is counted
abbrev pub good_until : ℕ → ℕ → ℕ
good_until timeout now = if timeout == 0 then last_count else min (now + timeout) last_count

-- what is known after a good reading now of this sensor, given as it was before
abbrev pub health_after_reading : InputHealth → Sensor → ℕ → InputHealth
health_after_reading known.Unknown sensor now = known.Unknown
health_after_reading known.Unasked sensor now = known.Unasked
health_after_reading known.Bad sensor now = if is_bad sensor now then known.Unasked else known.Bad
health_after_reading (known.GoodUntil last) sensor now = known.GoodUntil (min last (good_until sensor.setting.timeout now))

-- what is known after a loss of this sensor, given as it is then, which had failed before or not
abbrev pub health_after_loss : InputHealth → Bool → Sensor → InputHealth
health_after_loss health had_failed sensor = if has_failed sensor && not had_failed then known.Unknown else health

-- what is known after an event behind which zones were left as they are, or not
abbrev pub health_after_event : InputHealth → Bool → InputHealth
health_after_event health left = if left then health else known.Unknown

-- whether it is known that none is bad at a tick
abbrev pub is_good_at : InputHealth → ℕ → Bool
is_good_at known.Unknown now = false
is_good_at known.Unasked now = false
is_good_at known.Bad now = false
is_good_at (known.GoodUntil last) now = nat_le now last
