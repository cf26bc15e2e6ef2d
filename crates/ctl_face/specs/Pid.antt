-- One step of a PID controller, in thousandths.
use Rattle.std.specs.Prelude.{ℕ, ◌*◌, Bool, not, ◌||◌, if◌then◌else◌, ℤ, pos, ◌+ℤ◌, ◌-ℤ◌, ◌*ℤ◌, Option, Some, None}
use Rattle.std.specs.Int.{int_max, int_min}
use Rattle.std.specs.Ordering.{int_eq}
use Rattle.ctl_face.specs.Floors.{floor_div, millionths_of, clamped}
use Rattle.ctl_face.specs.declared.sample.Sample.{Sample}
use Rattle.ctl_face.specs.declared.setting.PidClass.{PidClass}
use Rattle.ctl_face.specs.declared.setting.PidClass.TheVariants.{Fan, Temp, Margin}
use Rattle.ctl_face.specs.declared.setting.PidSetting.{PidSetting}
use Rattle.ctl_face.specs.declared.state.CtlState.{CtlState}

-- how many steps there are in a second
abbrev pub pace : PidClass → ℕ
pace Fan = 10
pace Temp = 1
pace Margin = 1

-- how far the input is below the setpoint
abbrev pub error_of : Sample → ℤ
error_of sample = sample.setpoint.0 -ℤ sample.input.0

-- the part of the error
abbrev pub proportional : PidSetting → ℤ → ℤ
proportional setting error = millionths_of setting.p error

-- the part of all errors, from the integral before and the error
abbrev pub integral_part : PidSetting → ℤ → ℤ → ℤ
integral_part setting before error =
    clamped setting.i_min.0 setting.i_max.0 (before +ℤ floor_div (setting.i *ℤ error) (pace setting.class * 1000000))

-- the part of the error's change, which is 0 at the first step
abbrev pub derivative : PidSetting → Option ℤ → ℤ → ℤ
derivative setting None error = pos 0
derivative setting (Some before) error = millionths_of setting.d ((error -ℤ before) *ℤ pos (pace setting.class))

-- the part of the setpoint
abbrev pub feed_forward : PidSetting → ℤ → ℤ
feed_forward setting setpoint = millionths_of setting.ff_gain (setpoint +ℤ setting.ff_off.0)

-- the sum of the parts, in the range of outputs
abbrev pub unslewed : PidSetting → CtlState → Sample → ℤ
unslewed setting old sample =
    let error = error_of sample in
    clamped setting.out_min.0 setting.out_max.0
    (proportional setting error +ℤ integral_part setting old.integral error +ℤ derivative setting old.error error
    +ℤ feed_forward setting sample.setpoint.0)

-- how far the output may fall and rise in one step
abbrev pub fall : PidSetting → ℤ
fall setting = floor_div setting.slew_neg.0 (pace setting.class)

abbrev pub rise : PidSetting → ℤ
rise setting = floor_div setting.slew_pos.0 (pace setting.class)

-- no lower than the output before and the fall, where falls are slewed
abbrev pub with_fall : PidSetting → ℤ → ℤ → ℤ
with_fall setting before output = if int_eq setting.slew_neg.0 (pos 0) then output else int_max output (before +ℤ fall setting)

-- no higher than the output before and the rise, where rises are slewed
abbrev pub with_rise : PidSetting → ℤ → ℤ → ℤ
with_rise setting before output = if int_eq setting.slew_pos.0 (pos 0) then output else int_min output (before +ℤ rise setting)

-- falls and then rises are slewed, where an output was given before
abbrev pub slewed : PidSetting → Option ℤ → ℤ → ℤ
slewed setting None output = output
slewed setting (Some before) output = with_rise setting before (with_fall setting before output)

-- whether falls or rises are slewed
abbrev pub has_slew : PidSetting → Bool
has_slew setting = not (int_eq setting.slew_neg.0 (pos 0)) || not (int_eq setting.slew_pos.0 (pos 0))

-- the output of a step
abbrev pub pid_output : PidSetting → CtlState → Sample → ℤ
pid_output setting old sample = slewed setting old.output (unslewed setting old sample)

-- the integral after a step: with a slew it is what the output leaves beside the part of the error
abbrev pub pid_integral : PidSetting → CtlState → Sample → ℤ
pid_integral setting old sample =
    let error = error_of sample in
    if has_slew setting
    then clamped setting.i_min.0 setting.i_max.0 (pid_output setting old sample -ℤ proportional setting error)
    else integral_part setting old.integral error

-- the state after a step
abbrev pub pid_step : PidSetting → CtlState → Sample → CtlState
pid_step setting old sample = record {
  integral = pid_integral setting old sample;
  error = Some (error_of sample);
  base = old.base;
  output = Some (pid_output setting old sample);
}
