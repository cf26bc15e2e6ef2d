-- The settings of PID controllers in a document.
use Rattle.std.specs.Prelude.{ℕ, Bool, false, ◌||◌, if◌then◌else◌, int_lt, pos, neg_ℤ, bytes_eq, codes, List, Result, Ok, Err}
use Rattle.bmc_base.specs.declared.milli.Milli.{Milli}
use Rattle.serde_json.specs.Data.{Data}
use Rattle.serde_json.specs.Find.{get}
use Rattle.ctl_face.specs.declared.setting.PidClass.{PidClass}
use Rattle.ctl_face.specs.declared.setting.PidClass.TheVariants.{Fan, Temp, Margin}
use Rattle.ctl_face.specs.declared.setting.PidSetting.{PidSetting}
use Rattle.cfg_json.specs.declared.config_fault.ConfigFault.{ConfigFault}
use Rattle.cfg_json.specs.declared.config_fault.ConfigFault.TheVariants.{OutOfRange}
use Rattle.cfg_json.specs.declared.pids.Gains.{Gains}
use Rattle.cfg_json.specs.declared.pids.Spans.{Spans}
use Rattle.cfg_json.specs.declared.pids.Slews.{Slews}
use Rattle.cfg_json.specs.Values.{◌>>=◌, required, milli_within, any_milli, any_micro, no_units, member_or}

-- what a PID controller controls
abbrev pub class_of : List ℕ → Result PidClass ConfigFault
class_of text =
    if bytes_eq text (codes "fan") then Ok Fan
    else if bytes_eq text (codes "temp") then Ok Temp
    else if bytes_eq text (codes "margin") then Ok Margin
    else Err OutOfRange

-- the reading that is wanted: that of a zone for class fan, whose member is not read
abbrev pub setpoint_of : PidClass → Data → Result Milli ConfigFault
setpoint_of Fan members = Ok no_units
setpoint_of Temp members = required (get (codes "SetPoint") members) >>= any_milli
setpoint_of Margin members = required (get (codes "SetPoint") members) >>= any_milli

-- the coefficients, in millionths
abbrev pub gains_of : Data → Result Gains ConfigFault
gains_of members =
    member_or (pos 0) any_micro (get (codes "PCoefficient") members) >>= λ p.
    member_or (pos 0) any_micro (get (codes "ICoefficient") members) >>= λ i.
    member_or (pos 0) any_micro (get (codes "DCoefficient") members) >>= λ d.
    member_or (pos 0) any_micro (get (codes "FFGainCoefficient") members) >>= λ ff_gain.
    Ok (record { p = p; i = i; d = d; ff_gain = ff_gain })

-- what is added to the setpoint, and the limits of the integral and of the output
abbrev pub spans_of : Data → Result Spans ConfigFault
spans_of members =
    member_or no_units any_milli (get (codes "FFOffCoefficient") members) >>= λ ff_off.
    member_or no_units any_milli (get (codes "ILimitMin") members) >>= λ i_min.
    member_or no_units any_milli (get (codes "ILimitMax") members) >>= λ i_max.
    required (get (codes "OutLimitMin") members) >>= any_milli >>= λ out_min.
    required (get (codes "OutLimitMax") members) >>= any_milli >>= λ out_max.
    Ok (record { ff_off = ff_off; i_min = i_min; i_max = i_max; out_min = out_min; out_max = out_max })

-- how far the output may fall and rise in a second
abbrev pub slews_of : Data → Result Slews ConfigFault
slews_of members =
    member_or no_units (milli_within (neg_ℤ (pos 1000000)) (pos 0)) (get (codes "SlewNeg") members) >>= λ neg.
    member_or no_units (milli_within (pos 0) (pos 1000000)) (get (codes "SlewPos") members) >>= λ pos.
    Ok (record { neg = neg; pos = pos })

-- whether outputs between these are no percent
abbrev pub leaves_percent : PidClass → Milli → Milli → Bool
leaves_percent Fan low high = int_lt low.0 (pos 0) || int_lt (pos 100000) high.0
leaves_percent Temp low high = false
leaves_percent Margin low high = false

-- no least number is above its greatest one, and fans run at 0 to 100 percent
abbrev pub in_order : PidSetting → Result PidSetting ConfigFault
in_order setting =
    if int_lt setting.i_max.0 setting.i_min.0 || int_lt setting.out_max.0 setting.out_min.0
    || leaves_percent setting.class setting.out_min setting.out_max
    then Err OutOfRange
    else Ok setting

abbrev pub put_together : PidClass → Milli → Gains → Spans → Slews → PidSetting
put_together class setpoint gains spans slews = record {
  class = class;
  setpoint = setpoint;
  p = gains.p;
  i = gains.i;
  d = gains.d;
  ff_gain = gains.ff_gain;
  ff_off = spans.ff_off;
  i_min = spans.i_min;
  i_max = spans.i_max;
  out_min = spans.out_min;
  out_max = spans.out_max;
  slew_neg = slews.neg;
  slew_pos = slews.pos;
}

-- the setting of a PID controller of this class
abbrev pub pid_of : PidClass → Data → Result PidSetting ConfigFault
pid_of class members =
    setpoint_of class members >>= λ setpoint.
    gains_of members >>= λ gains.
    spans_of members >>= λ spans.
    slews_of members >>= λ slews.
    in_order (put_together class setpoint gains spans slews)
