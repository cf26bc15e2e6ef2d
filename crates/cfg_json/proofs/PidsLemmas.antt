-- The settings of PID controllers that are read are valid, and reading one names no pattern.
use Rattle.std.proofs.Common.{◌≡◌, ℤ, pos, neg_ℤ, ◌*ℤ◌, ◌≤ℤ◌, Bool, true, false, List, ℕ, Option, Some, None, Result, Ok, Err, if◌then◌else◌, ◌||◌, refl, subst}
use Rattle.std.proofs.Common.{arith, codes}
use Rattle.std.specs.Prelude.{int_lt, bytes_eq}
use Rattle.std.proofs.lemmas.Int.{ints}
use Rattle.bmc_base.specs.declared.milli.Milli.{Milli}
use Rattle.bmc_text.specs.Words.{decimal_units}
use Rattle.serde_json.specs.Data.{Data, null, boolean, number, string, array, object}
use Rattle.serde_json.specs.Find.{get}
use Rattle.ctl_face.specs.Ranges.{IsMicro, IsMilli, IsFall, IsRise, IsValidPid}
use Rattle.ctl_face.specs.declared.setting.PidClass.{PidClass}
use Rattle.ctl_face.specs.declared.setting.PidClass.TheVariants.{Fan, Temp, Margin}
use Rattle.ctl_face.specs.declared.setting.PidSetting.{PidSetting}
use Rattle.cfg_json.specs.declared.config_fault.ConfigFault.{ConfigFault}
use Rattle.cfg_json.specs.declared.config_fault.ConfigFault.TheVariants.{OutOfRange}
use Rattle.cfg_json.specs.declared.pids.Gains.{Gains}
use Rattle.cfg_json.specs.declared.pids.Spans.{Spans}
use Rattle.cfg_json.specs.declared.pids.Slews.{Slews}
use Rattle.cfg_json.specs.Values.{◌>>=◌, required, kind_only, int_within, whole_number, milli_within, any_milli, any_micro, no_units, member_or}
use Rattle.cfg_json.specs.Pids.{class_of, setpoint_of, gains_of, spans_of, slews_of, leaves_percent, in_order, put_together, pid_of}
use Rattle.cfg_json.proofs.PartsLemmas.{NamesNoPattern, then_none, where_none, wanted_none, member_none, milli_none, any_none, micro_none}
use Rattle.cfg_json.proofs.SettingsLemmas.{then_ok, within_is, number_in, milli_in, milli_or_in}

-- ---- the ranges of numbers

-- a coefficient is within a million units of 0
micro_in : (value : Data) (n : ℤ) → any_micro value ≡ Ok n → IsMicro n
micro_in null n e = absurd (cc)
micro_in (boolean b) n e = absurd (cc)
micro_in (number num) n e =
    let units = then_ok (whole_number (neg_ℤ (pos 1000000)) (pos 1000000) num) (λ units. Ok (units *ℤ pos 1000000)) n e in
    let is = number_in (neg_ℤ (pos 1000000)) (pos 1000000) num units.value units.reads in
    let same : units.value *ℤ pos 1000000 ≡ n = cc (units.later) in
    subst IsMicro same (omega (arith, ints, is.low), omega (arith, ints, is.high))
micro_in (string text) n e =
    let read = then_ok (kind_only (decimal_units 6 text)) (int_within (neg_ℤ (pos 1000000000000)) (pos 1000000000000)) n e in
    let is = within_is (neg_ℤ (pos 1000000000000)) (pos 1000000000000) read.value n read.later in
    (is.low, is.high)
micro_in (array items) n e = absurd (cc)
micro_in (object ms) n e = absurd (cc)

micro_or_in : (found : Option Data) (n : ℤ) → member_or (pos 0) any_micro found ≡ Ok n → IsMicro n
micro_or_in None n e = let same : pos 0 ≡ n = cc in subst IsMicro same (omega (arith, ints), omega (arith, ints))
micro_or_in (Some member) n e = micro_in member n e

-- thousandths that may be missing, and such that have to be there
any_or_in : (found : Option Data) (m : Milli) → member_or no_units any_milli found ≡ Ok m → IsMilli m.0
any_or_in found m e =
    let is = milli_or_in (neg_ℤ (pos 1000000)) (pos 1000000) found m (record { low = omega (arith, ints); high = omega (arith, ints) }) e in
    (is.low, is.high)

any_wanted_in : (found : Option Data) (m : Milli) → (required found >>= any_milli) ≡ Ok m → IsMilli m.0
any_wanted_in found m e =
    let read = then_ok (required found) any_milli m e in
    let is = milli_in (neg_ℤ (pos 1000000)) (pos 1000000) read.value m read.later in
    (is.low, is.high)

setpoint_in : (class : PidClass) (members : Data) (m : Milli) → setpoint_of class members ≡ Ok m → IsMilli m.0
setpoint_in Fan members m e =
    let same : no_units ≡ m = cc in subst (λ (m : Milli). IsMilli m.0) same (omega (arith, ints), omega (arith, ints))
setpoint_in Temp members m e = any_wanted_in (get (codes "SetPoint") members) m e
setpoint_in Margin members m e = any_wanted_in (get (codes "SetPoint") members) m e

-- ---- the parts of a setting

record AreGains (gains : Gains) : Type 0 where
  p : IsMicro gains.p
  i : IsMicro gains.i
  d : IsMicro gains.d
  ff_gain : IsMicro gains.ff_gain

gains_in : (members : Data) (gains : Gains) → gains_of members ≡ Ok gains → AreGains gains
gains_in members gains e =
    let p = then_ok (member_or (pos 0) any_micro (get (codes "PCoefficient") members)) _ gains e in
    let i = then_ok (member_or (pos 0) any_micro (get (codes "ICoefficient") members)) _ gains p.later in
    let d = then_ok (member_or (pos 0) any_micro (get (codes "DCoefficient") members)) _ gains i.later in
    let ff_gain = then_ok (member_or (pos 0) any_micro (get (codes "FFGainCoefficient") members)) _ gains d.later in
    let read : Gains = record { p = p.value; i = i.value; d = d.value; ff_gain = ff_gain.value } in
    let same : read ≡ gains = cc (ff_gain.later) in
    subst AreGains same (record {
      p = micro_or_in (get (codes "PCoefficient") members) p.value p.reads;
      i = micro_or_in (get (codes "ICoefficient") members) i.value i.reads;
      d = micro_or_in (get (codes "DCoefficient") members) d.value d.reads;
      ff_gain = micro_or_in (get (codes "FFGainCoefficient") members) ff_gain.value ff_gain.reads;
    })

record AreSpans (spans : Spans) : Type 0 where
  ff_off : IsMilli spans.ff_off.0
  i_min : IsMilli spans.i_min.0
  i_max : IsMilli spans.i_max.0
  out_min : IsMilli spans.out_min.0
  out_max : IsMilli spans.out_max.0

spans_in : (members : Data) (spans : Spans) → spans_of members ≡ Ok spans → AreSpans spans
spans_in members spans e =
    let ff_off = then_ok (member_or no_units any_milli (get (codes "FFOffCoefficient") members)) _ spans e in
    let i_min = then_ok (member_or no_units any_milli (get (codes "ILimitMin") members)) _ spans ff_off.later in
    let i_max = then_ok (member_or no_units any_milli (get (codes "ILimitMax") members)) _ spans i_min.later in
    let out_min = then_ok (required (get (codes "OutLimitMin") members) >>= any_milli) _ spans i_max.later in
    let out_max = then_ok (required (get (codes "OutLimitMax") members) >>= any_milli) _ spans out_min.later in
    let read : Spans =
    record { ff_off = ff_off.value; i_min = i_min.value; i_max = i_max.value; out_min = out_min.value; out_max = out_max.value } in
    let same : read ≡ spans = cc (out_max.later) in
    subst AreSpans same (record {
      ff_off = any_or_in (get (codes "FFOffCoefficient") members) ff_off.value ff_off.reads;
      i_min = any_or_in (get (codes "ILimitMin") members) i_min.value i_min.reads;
      i_max = any_or_in (get (codes "ILimitMax") members) i_max.value i_max.reads;
      out_min = any_wanted_in (get (codes "OutLimitMin") members) out_min.value out_min.reads;
      out_max = any_wanted_in (get (codes "OutLimitMax") members) out_max.value out_max.reads;
    })

record AreSlews (slews : Slews) : Type 0 where
  down : IsFall slews.neg.0
  up : IsRise slews.pos.0

slews_in : (members : Data) (slews : Slews) → slews_of members ≡ Ok slews → AreSlews slews
slews_in members slews e =
    let down = then_ok (member_or no_units (milli_within (neg_ℤ (pos 1000000)) (pos 0)) (get (codes "SlewNeg") members)) _ slews e in
    let up = then_ok (member_or no_units (milli_within (pos 0) (pos 1000000)) (get (codes "SlewPos") members)) _ slews down.later in
    let fall = milli_or_in (neg_ℤ (pos 1000000)) (pos 0) (get (codes "SlewNeg") members) down.value
    (record { low = omega (arith, ints); high = omega (arith, ints) }) down.reads in
    let rise = milli_or_in (pos 0) (pos 1000000) (get (codes "SlewPos") members) up.value
    (record { low = omega (arith, ints); high = omega (arith, ints) }) up.reads in
    let read : Slews = record { neg = down.value; pos = up.value } in
    let same : read ≡ slews = cc (up.later) in
    subst AreSlews same (record { down = (fall.low, fall.high); up = (rise.low, rise.high) })

-- ---- the order of limits

record AreOrdered (setting : PidSetting) : Type 0 where
  integrals : setting.i_min.0 ≤ℤ setting.i_max.0
  outputs : setting.out_min.0 ≤ℤ setting.out_max.0
  percent : setting.class ≡ Fan → (pos 0 ≤ℤ setting.out_min.0) × (setting.out_max.0 ≤ℤ pos 100000)

percent_in : (class : PidClass) (low high : Milli) → leaves_percent class low high ≡ false → class ≡ Fan → (pos 0 ≤ℤ low.0) × (high.0 ≤ℤ pos 100000)
percent_in Fan low high test is = by (int_lt low.0 (pos 0)) (int_lt (pos 100000) high.0) refl refl test
  where
    by : (below above : Bool) → int_lt low.0 (pos 0) ≡ below → int_lt (pos 100000) high.0 ≡ above → (below || above) ≡ false
        → (pos 0 ≤ℤ low.0) × (high.0 ≤ℤ pos 100000)
    by false false below above neither = (grind (arith, ints), grind (arith, ints))
    by false true below above neither = absurd (cc)
    by true above_is below above neither = absurd (cc)
percent_in Temp low high test is = absurd (cc)
percent_in Margin low high test is = absurd (cc)

ordered_is : (setting out : PidSetting) → in_order setting ≡ Ok out → (setting ≡ out) × AreOrdered setting
ordered_is setting out e =
    by (int_lt setting.i_max.0 setting.i_min.0) (int_lt setting.out_max.0 setting.out_min.0)
    (leaves_percent setting.class setting.out_min setting.out_max) refl refl refl e
  where
    by : (integrals outputs percent : Bool) → int_lt setting.i_max.0 setting.i_min.0 ≡ integrals → int_lt setting.out_max.0 setting.out_min.0 ≡ outputs
        → leaves_percent setting.class setting.out_min setting.out_max ≡ percent
        → (if integrals || outputs || percent then Err OutOfRange else Ok setting) ≡ Ok out → (setting ≡ out) × AreOrdered setting
    by false false false integrals outputs percent e = (
      cc,
      record {
        integrals = grind (arith, ints);
        outputs = grind (arith, ints);
        percent = percent_in setting.class setting.out_min setting.out_max percent;
      },
    )
    by false false true integrals outputs percent e = absurd (cc)
    by false true percent_is integrals outputs percent e = absurd (cc)
    by true outputs_is percent_is integrals outputs percent e = absurd (cc)

pub pid_valid : (class : PidClass) (members : Data) (setting : PidSetting) → pid_of class members ≡ Ok setting → IsValidPid setting
pid_valid class members setting e =
    let setpoint = then_ok (setpoint_of class members) _ setting e in
    let gains = then_ok (gains_of members) _ setting setpoint.later in
    let spans = then_ok (spans_of members) _ setting gains.later in
    let slews = then_ok (slews_of members) (λ slews. in_order (put_together class setpoint.value gains.value spans.value slews)) setting spans.later in
    let gained = gains_in members gains.value gains.reads in
    let spanned = spans_in members spans.value spans.reads in
    let slewed = slews_in members slews.value slews.reads in
    let ordered = ordered_is (put_together class setpoint.value gains.value spans.value slews.value) setting slews.later in
    subst IsValidPid ordered.0 (record {
      setpoint = setpoint_in class members setpoint.value setpoint.reads;
      p = gained.p;
      i = gained.i;
      d = gained.d;
      ff_gain = gained.ff_gain;
      ff_off = spanned.ff_off;
      i_min = spanned.i_min;
      i_max = spanned.i_max;
      out_min = spanned.out_min;
      out_max = spanned.out_max;
      slew_neg = slewed.down;
      slew_pos = slewed.up;
      integrals = ordered.1.integrals;
      outputs = ordered.1.outputs;
      percent = ordered.1.percent;
    })

-- ---- no pattern is named

pub class_none : (text : List ℕ) → NamesNoPattern (class_of text)
class_none text =
    where_none (bytes_eq text (codes "fan")) (Ok Fan) _ tt
    (where_none (bytes_eq text (codes "temp")) (Ok Temp) _ tt (where_none (bytes_eq text (codes "margin")) (Ok Margin) (Err OutOfRange) tt tt))

setpoint_none : (class : PidClass) (members : Data) → NamesNoPattern (setpoint_of class members)
setpoint_none Fan members = tt
setpoint_none Temp members = wanted_none any_milli any_none (get (codes "SetPoint") members)
setpoint_none Margin members = wanted_none any_milli any_none (get (codes "SetPoint") members)

-- a coefficient, and what follows it
micro_then : {B : Type 0} (found : Option Data) (next : ℤ → Result B ConfigFault) → ((n : ℤ) → NamesNoPattern (next n))
    → NamesNoPattern (member_or (pos 0) any_micro found >>= next)
micro_then found next = then_none (member_or (pos 0) any_micro found) next (member_none (pos 0) any_micro micro_none found)

-- thousandths that may be missing, and what follows them
milli_then : {B : Type 0} (least most : ℤ) (found : Option Data) (next : Milli → Result B ConfigFault) → ((m : Milli) → NamesNoPattern (next m))
    → NamesNoPattern (member_or no_units (milli_within least most) found >>= next)
milli_then least most found next =
    then_none (member_or no_units (milli_within least most) found) next (member_none no_units (milli_within least most) (milli_none least most) found)

gains_none : (members : Data) → NamesNoPattern (gains_of members)
gains_none members =
    micro_then (get (codes "PCoefficient") members) _ (λ p. micro_then (get (codes "ICoefficient") members) _ (λ i.
    micro_then (get (codes "DCoefficient") members) _ (λ d. micro_then (get (codes "FFGainCoefficient") members) _ (λ ff_gain. tt))))

spans_none : (members : Data) → NamesNoPattern (spans_of members)
spans_none members =
    milli_then (neg_ℤ (pos 1000000)) (pos 1000000) (get (codes "FFOffCoefficient") members) _ (λ ff_off.
    milli_then (neg_ℤ (pos 1000000)) (pos 1000000) (get (codes "ILimitMin") members) _ (λ i_min.
    milli_then (neg_ℤ (pos 1000000)) (pos 1000000) (get (codes "ILimitMax") members) _ (λ i_max.
    then_none (required (get (codes "OutLimitMin") members) >>= any_milli) _ (wanted_none any_milli any_none (get (codes "OutLimitMin") members)) (λ out_min.
    then_none (required (get (codes "OutLimitMax") members) >>= any_milli) _ (wanted_none any_milli any_none (get (codes "OutLimitMax") members)) (λ out_max.
    tt)))))

slews_none : (members : Data) → NamesNoPattern (slews_of members)
slews_none members =
    milli_then (neg_ℤ (pos 1000000)) (pos 0) (get (codes "SlewNeg") members) _ (λ down.
    milli_then (pos 0) (pos 1000000) (get (codes "SlewPos") members) _ (λ up. tt))

order_none : (setting : PidSetting) → NamesNoPattern (in_order setting)
order_none setting = where_none _ (Err OutOfRange) (Ok setting) tt tt

pub pid_setting_none : (class : PidClass) (members : Data) → NamesNoPattern (pid_of class members)
pid_setting_none class members =
    then_none (setpoint_of class members) _ (setpoint_none class members) (λ setpoint. then_none (gains_of members) _ (gains_none members) (λ gains.
    then_none (spans_of members) _ (spans_none members) (λ spans. then_none (slews_of members) _ (slews_none members) (λ slews.
    order_none (put_together class setpoint gains spans slews)))))
