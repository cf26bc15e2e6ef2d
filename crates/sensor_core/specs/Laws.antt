-- What holds of values and alarms.
use Rattle.std.specs.Prelude.{◌≡◌, ◌↔◌, ℤ, pos, ◌+ℤ◌, ◌*ℤ◌, ◌≤ℤ◌, ◌<ℤ◌, true, false, List, ◌∷◌, ◌++◌}
use Rattle.std.specs.List.{list_any}
use Rattle.bmc_base.specs.declared.milli.Milli.{Milli}
use Rattle.sensor_core.specs.declared.limit.Limit.{Limit}
use Rattle.sensor_core.specs.declared.setting.SensorSetting.{SensorSetting}
use Rattle.sensor_core.specs.Limits.{IsValidLimit, is_beyond, is_back, is_on}
use Rattle.sensor_core.specs.Settings.{IsValidScale, quotient_of}

-- a quotient is the largest whole number that is not above the exact one
pub record IsFloor (dividend divisor quotient : ℤ) : Type 0 where
  pub low : (divisor *ℤ quotient) ≤ℤ dividend
  pub high : dividend <ℤ (divisor *ℤ (quotient +ℤ pos 1))

abbrev pub ValuesAreFloors : Type 0
ValuesAreFloors = (setting : SensorSetting) (raw : ℤ) → IsValidScale setting
    → IsFloor (raw *ℤ setting.num) setting.den (quotient_of setting raw)

-- one of the values is beyond the limit, and no later one is back from it
pub record IsRaised (limit : Limit) (values : List Milli) : Type 0 where
  pub later : List Milli
  pub raising : Milli
  pub earlier : List Milli
  pub split : values ≡ later ++ raising ∷ earlier
  pub beyond : is_beyond limit raising ≡ true
  pub none_back : list_any (is_back limit) later ≡ false

abbrev pub AlarmsAreRaised : Type 0
AlarmsAreRaised = (limit : Limit) (values : List Milli) → IsValidLimit limit → (is_on limit values ≡ true) ↔ IsRaised limit values
