-- Which settings and samples are valid. All numbers are thousandths, and coefficients are millionths.
use Rattle.std.specs.Prelude.{◌≡◌, ℕ, ◌≤◌, ◌*◌, ◌^◌, ℤ, pos, neg_ℤ, ◌≤ℤ◌, All}
use Rattle.ctl_face.specs.Stepwise.{used_rows}
use Rattle.ctl_face.specs.declared.sample.Sample.{Sample}
use Rattle.ctl_face.specs.declared.setting.PidClass.TheVariants.{Fan}
use Rattle.ctl_face.specs.declared.setting.PidSetting.{PidSetting}
use Rattle.ctl_face.specs.declared.setting.Setting.{Setting}
use Rattle.ctl_face.specs.declared.setting.Setting.TheVariants.{Pid, Stepwise}
use Rattle.ctl_face.specs.declared.setting.StepRow.{StepRow}
use Rattle.ctl_face.specs.declared.setting.StepSetting.{StepSetting}

-- not below the low number and not above the high one
abbrev pub IsBetween : ℤ → ℤ → ℤ → Type 0
IsBetween low high z = (low ≤ℤ z) × (z ≤ℤ high)

-- n to either side of 0
abbrev pub IsWithin : ℕ → ℤ → Type 0
IsWithin n z = IsBetween (neg_ℤ (pos n)) (pos n) z

-- a million units to either side of 0, in thousandths and in millionths
abbrev pub IsMilli : ℤ → Type 0
IsMilli z = IsWithin (10 ^ 9) z

abbrev pub IsMicro : ℤ → Type 0
IsMicro z = IsWithin (10 ^ 12) z

-- no more than a million units, upwards and downwards
abbrev pub IsRise : ℤ → Type 0
IsRise z = IsBetween (pos 0) (pos (10 ^ 9)) z

abbrev pub IsFall : ℤ → Type 0
IsFall z = IsBetween (neg_ℤ (pos (10 ^ 9))) (pos 0) z

-- the numbers are in their ranges, no least number is above its greatest one, and fans run at 0 to 100 percent
pub record IsValidPid (setting : PidSetting) : Type 0 where
  pub setpoint : IsMilli setting.setpoint.0
  pub p : IsMicro setting.p
  pub i : IsMicro setting.i
  pub d : IsMicro setting.d
  pub ff_gain : IsMicro setting.ff_gain
  pub ff_off : IsMilli setting.ff_off.0
  pub i_min : IsMilli setting.i_min.0
  pub i_max : IsMilli setting.i_max.0
  pub out_min : IsMilli setting.out_min.0
  pub out_max : IsMilli setting.out_max.0
  pub slew_neg : IsFall setting.slew_neg.0
  pub slew_pos : IsRise setting.slew_pos.0
  pub integrals : setting.i_min.0 ≤ℤ setting.i_max.0
  pub outputs : setting.out_min.0 ≤ℤ setting.out_max.0
  pub percent : setting.class ≡ Fan → (pos 0 ≤ℤ setting.out_min.0) × (setting.out_max.0 ≤ℤ pos 100000)

-- within the limits of the setting's outputs
abbrev pub IsOutput : PidSetting → ℤ → Type 0
IsOutput setting z = IsBetween setting.out_min.0 setting.out_max.0 z

-- the numbers of a row are in their ranges
abbrev pub IsValidRow : StepRow → Type 0
IsValidRow row = IsMilli row.reading.0 × IsMilli row.output.0

-- 1 to 20 rows, with their numbers and the hysteresis in their ranges
pub record IsValidStep (setting : StepSetting) : Type 0 where
  pub some_rows : 1 ≤ setting.count
  pub few_rows : setting.count ≤ 20
  pub rows : All IsValidRow (used_rows setting)
  pub positive : IsRise setting.positive.0
  pub negative : IsRise setting.negative.0

abbrev pub IsValid : Setting → Type 0
IsValid (Pid setting) = IsValidPid setting
IsValid (Stepwise setting) = IsValidStep setting

-- the input and the setpoint are in their ranges
pub record IsValidSample (sample : Sample) : Type 0 where
  pub input : IsWithin (2 * 10 ^ 15) sample.input.0
  pub setpoint : IsMilli sample.setpoint.0
