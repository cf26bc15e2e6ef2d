-- Outputs within their limits.
use Rattle.std.proofs.Common.{refl, ℕ, ◌/◌, ◌≤◌, ℤ, pos, negsuc, ◌+ℤ◌, Bool, true, false, if◌then◌else◌, Option, Some, None, arith}
use lib.Signed.{◌≤ℤ◌}
use Rattle.std.proofs.Math.Nat.{div-le_self}
use Rattle.std.proofs.lemmas.Int.{ints, clamps}
use Rattle.std.specs.Int.{int_max, int_min}
use Rattle.std.specs.Option.{ForSome}
use Rattle.std.specs.Ordering.{int_eq}
use Rattle.ctl_face.specs.Floors.{floor_div, clamped}
use Rattle.ctl_face.specs.Pid.{pace, fall, rise, with_fall, with_rise, slewed, unslewed, pid_output}
use Rattle.ctl_face.specs.Ranges.{IsBetween, IsOutput, IsValidPid}
use Rattle.ctl_face.specs.declared.sample.Sample.{Sample}
use Rattle.ctl_face.specs.declared.setting.PidSetting.{PidSetting}
use Rattle.ctl_face.specs.declared.state.CtlState.{CtlState}

floor_falls : (z : ℤ) (n : ℕ) → z ≤ℤ pos 0 → floor_div z n ≤ℤ pos 0
floor_falls (pos a) n h = let e : a / n ≤ a = div-le_self a n in omega (arith, ints, e, h)
floor_falls (negsuc a) n h = omega (arith, ints)

floor_rises : (z : ℤ) (n : ℕ) → pos 0 ≤ℤ z → pos 0 ≤ℤ floor_div z n
floor_rises (pos a) n h = omega (arith, ints)
floor_rises (negsuc a) n h = omega (arith, ints, h)

clamped_within : (low high z : ℤ) → low ≤ℤ high → IsBetween low high (clamped low high z)
clamped_within low high z h = (omega (arith, ints, clamps), omega (arith, ints, clamps))

-- a choice of two numbers within limits
either_within : (low high x y : ℤ) (b : Bool) → IsBetween low high x → IsBetween low high y → IsBetween low high (if b then x else y)
either_within low high x y true p q = p
either_within low high x y false p q = q

raised_within : (low high before output by : ℤ) → IsBetween low high before → IsBetween low high output → by ≤ℤ pos 0
    → IsBetween low high (int_max output (before +ℤ by))
raised_within low high before output by p q h = (omega (arith, ints, clamps), omega (arith, ints, clamps))

lowered_within : (low high before output by : ℤ) → IsBetween low high before → IsBetween low high output → pos 0 ≤ℤ by
    → IsBetween low high (int_min output (before +ℤ by))
lowered_within low high before output by p q h = (omega (arith, ints, clamps), omega (arith, ints, clamps))

fall_within : (setting : PidSetting) (before output : ℤ) → IsValidPid setting → IsOutput setting before → IsOutput setting output
    → IsOutput setting (with_fall setting before output)
fall_within setting before output v p q =
    either_within _ _ output _ (int_eq setting.slew_neg.0 (pos 0)) q
    (raised_within _ _ before output (fall setting) p q (floor_falls setting.slew_neg.0 (pace setting.class) v.slew_neg.1))

rise_within : (setting : PidSetting) (before output : ℤ) → IsValidPid setting → IsOutput setting before → IsOutput setting output
    → IsOutput setting (with_rise setting before output)
rise_within setting before output v p q =
    either_within _ _ output _ (int_eq setting.slew_pos.0 (pos 0)) q
    (lowered_within _ _ before output (rise setting) p q (floor_rises setting.slew_pos.0 (pace setting.class) v.slew_pos.0))

slewed_within : (setting : PidSetting) (before : Option ℤ) (output : ℤ) → IsValidPid setting → ForSome before (IsOutput setting)
    → IsOutput setting output → IsOutput setting (slewed setting before output)
slewed_within setting None output v p q = q
slewed_within setting (Some before) output v p q =
    rise_within setting before _ v (p before refl) (fall_within setting before output v (p before refl) q)

pub output_within : (setting : PidSetting) (old : CtlState) (sample : Sample) → IsValidPid setting → ForSome old.output (IsOutput setting)
    → IsOutput setting (pid_output setting old sample)
output_within setting old sample v p =
    slewed_within setting old.output (unslewed setting old sample) v p (clamped_within _ _ _ v.outputs)
