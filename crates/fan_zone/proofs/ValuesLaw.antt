-- The values of sensors are within the range of samples.
use Rattle.std.proofs.Common.{◌≡◌, ℕ, ◌*◌, ◌^◌, ◌≤◌, ℤ, pos, negsuc, neg_ℤ, ◌+ℤ◌, ◌*ℤ◌, ◌≤ℤ◌, [], ◌∷◌, arith, ap, subst}
use Rattle.std.proofs.Math.Nat.{div-le_self}
use Rattle.std.proofs.lemmas.Int.{ints, unsigned_abs-mul}
use Rattle.std.specs.Int.{int_div_euclid, int_max, int_min}
use Rattle.std.specs.Int.RustNames.{unsigned_abs}
use Rattle.bmc_base.specs.declared.milli.Milli.{Milli}
use Rattle.sensor_core.specs.declared.setting.SensorSetting.{SensorSetting}
use Rattle.sensor_core.specs.Sensors.{Good, Lost}
use Rattle.sensor_core.specs.Settings.{IsRaw, IsValidSetting, value_of}
use Rattle.fan_zone.specs.Laws.{ValuesFit}
use Rattle.fan_zone.specs.Passes.{most_input, sample_of}

-- a quotient is no larger than what is divided
quotient_small : (k : ℕ) (z d : ℤ) → pos 1 ≤ℤ d → unsigned_abs z ≤ k → unsigned_abs (int_div_euclid z d) ≤ k
quotient_small k (pos m) (pos n) low small = omega (arith, div-le_self m n)
quotient_small k (negsuc m) (pos n) low small = omega (arith, div-le_self m n)
quotient_small k (pos m) (negsuc n) low small = absurd (omega (arith, ints))
quotient_small k (negsuc m) (negsuc n) low small = absurd (omega (arith, ints))

product_small : (raw num : ℤ) → unsigned_abs raw ≤ 10 ^ 9 → unsigned_abs num ≤ 10 ^ 6 → unsigned_abs (raw *ℤ num) ≤ 10 ^ 15
product_small raw num p q =
    let m : unsigned_abs raw * unsigned_abs num ≤ 10 ^ 9 * 10 ^ 6 = grind arith in
    rw unsigned_abs-mul (omega arith)

sum_small : (quotient offset : ℤ) → unsigned_abs quotient ≤ 10 ^ 15 → unsigned_abs offset ≤ 10 ^ 9 → unsigned_abs (quotient +ℤ offset) ≤ most_input
sum_small quotient offset p q = omega (arith, ints, p, q)

clamped_is : (z : ℤ) → unsigned_abs z ≤ most_input → int_max (neg_ℤ (pos most_input)) (int_min z (pos most_input)) ≡ z
clamped_is z small = grind (arith, ints, small)

value_fits : (setting : SensorSetting) (raw : ℤ) (setpoint : Milli) → IsValidSetting setting → IsRaw raw
    → (sample_of (value_of setting raw).0 setpoint).input ≡ value_of setting raw
value_fits setting raw setpoint valid is_raw =
    ap (λ (z : ℤ). record { 0 = z }) (clamped_is (value_of setting raw).0
    (sum_small (int_div_euclid (raw *ℤ setting.num) setting.den) setting.offset.0
    (quotient_small (10 ^ 15) (raw *ℤ setting.num) setting.den valid.scale.divides (product_small raw setting.num is_raw valid.scale.factor))
    valid.scale.shift))

pub values_fit : ValuesFit
values_fit setting [] setpoint valid all = λ value none. absurd (cc)
values_fit setting (Lost ∷ outcomes) setpoint valid all = values_fit setting outcomes setpoint valid all.1
values_fit setting (Good raw tick ∷ outcomes) setpoint valid all =
    λ value is.
    let same : value_of setting raw ≡ value = cc in
    subst (λ (value : Milli). (sample_of value.0 setpoint).input ≡ value) same (value_fits setting raw setpoint valid all.0)
