-- Settings that are read are valid.
use Rattle.std.proofs.Common.{◌≡◌, ◌∙◌, ◌≤◌, ℕ, suc, ℤ, pos, neg_ℤ, ◌*ℤ◌, ◌≤ℤ◌, Bool, true, false, List, [], ◌∷◌, ◌++◌, length, take, Option, Some}
use Rattle.std.proofs.Common.{None, Result, Ok, Err, if◌then◌else◌, ◌&&◌, refl, sym, ap, subst, arith, codes}
use Rattle.std.specs.Prelude.{int_le, unsigned_abs}
use Rattle.std.specs.List.{All}
use Rattle.std.proofs.Math.ListN.{replicate}
use Rattle.std.proofs.Math.Seq.{take-append_seam}
use Rattle.std.proofs.lemmas.List.{take-take}
use Rattle.std.proofs.lemmas.List.Elements.{All-nil, All-cons}
use Rattle.std.proofs.lemmas.Int.{ints}
use Rattle.bmc_base.specs.declared.milli.Milli.{Milli}
use Rattle.bmc_text.specs.Words.{decimal_units}
use Rattle.serde_json.specs.Data.{Num, Data, null, boolean, number, string, array, object}
use Rattle.serde_json.specs.Find.{get, as_integer}
use Rattle.sensor_core.specs.declared.limit.Limit.{Limit}
use Rattle.sensor_core.specs.declared.setting.SensorSetting.{SensorSetting}
use Rattle.sensor_core.specs.Limits.{IsValidLimit}
use Rattle.sensor_core.specs.Settings.{IsValidSetting}
use Rattle.cfg_json.specs.declared.config_fault.ConfigFault.{ConfigFault}
use Rattle.cfg_json.specs.declared.config_fault.ConfigFault.TheVariants.{OutOfRange}
use Rattle.cfg_json.specs.Values.{◌>>=◌, required, text_only, object_only, list_within, each, kind_only, is_between, int_within, milli_within, any_milli}
use Rattle.cfg_json.specs.Values.{whole_number, whole_within, no_units, member_or}
use Rattle.cfg_json.specs.Sensors.{side_of, limit_of, unused_limit, eight_limits, limits_in, setting_of}
use Rattle.cfg_json.proofs.SensorsLemmas.{few_listed}

-- what was read of a part, and what follows it
pub record IsThen {A B : Type 0} (part : Result A ConfigFault) (next : A → Result B ConfigFault) (end : B) : Type 0 where
  pub value : A
  pub reads : part ≡ Ok value
  pub later : next value ≡ Ok end

pub then_ok : {A B : Type 0} (part : Result A ConfigFault) (next : A → Result B ConfigFault) (end : B) → (part >>= next) ≡ Ok end → IsThen part next end
then_ok (Ok value) next end e = record { value = value; reads = refl; later = e }
then_ok (Err fault) next end e = absurd (cc)

-- a whole number is between two others
pub record IsIn (least most n : ℤ) : Type 0 where
  pub low : least ≤ℤ n
  pub high : n ≤ℤ most

test_is : (least most n : ℤ) → is_between least most n ≡ true → IsIn least most n
test_is least most n test = by (int_le least n) (int_le n most) refl refl test
  where
    by : (low high : Bool) → int_le least n ≡ low → int_le n most ≡ high → (low && high) ≡ true → IsIn least most n
    by true true low high both = record { low = grind (arith, ints); high = grind (arith, ints) }
    by true false low high both = absurd (cc)
    by false high_is low high both = absurd (cc)

pub within_is : (least most value n : ℤ) → int_within least most value ≡ Ok n → IsIn least most n
within_is least most value n e = by (is_between least most value) refl e
  where
    by : (b : Bool) → is_between least most value ≡ b → (if b then Ok value else Err OutOfRange) ≡ Ok n → IsIn least most n
    by true test e = let same : value ≡ n = cc in subst (IsIn least most) same (test_is least most value test)
    by false test e = absurd (cc)

pub number_in : (least most : ℤ) (num : Num) (n : ℤ) → whole_number least most num ≡ Ok n → IsIn least most n
number_in least most num n e = let read = then_ok (kind_only (as_integer num)) (int_within least most) n e in within_is least most read.value n read.later

whole_in : (least most : ℤ) (value : Data) (n : ℤ) → whole_within least most value ≡ Ok n → IsIn least most n
whole_in least most null n e = absurd (cc)
whole_in least most (boolean b) n e = absurd (cc)
whole_in least most (number num) n e = number_in least most num n e
whole_in least most (string text) n e = absurd (cc)
whole_in least most (array items) n e = absurd (cc)
whole_in least most (object ms) n e = absurd (cc)

pub whole_or_in : (least most missing : ℤ) (found : Option Data) (n : ℤ) → IsIn least most missing → member_or missing (whole_within least most) found ≡ Ok n
    → IsIn least most n
whole_or_in least most missing None n is e = let same : missing ≡ n = cc in subst (IsIn least most) same is
whole_or_in least most missing (Some member) n is e = whole_in least most member n e

-- how large a number is that is not below 0
pub size_in : (most : ℕ) (n : ℤ) → IsIn (pos 0) (pos most) n → unsigned_abs n ≤ most
size_in most n is = omega (arith, ints, is.low, is.high)

-- how large a number is that is as far to either side of 0
size_about : (most : ℕ) (n : ℤ) → IsIn (neg_ℤ (pos most)) (pos most) n → unsigned_abs n ≤ most
size_about most n is = omega (arith, ints, is.low, is.high)

thousandfold : (least most units : ℤ) → IsIn least most units → IsIn (least *ℤ pos 1000) (most *ℤ pos 1000) (units *ℤ pos 1000)
thousandfold least most units is = record { low = omega (arith, ints, is.low); high = omega (arith, ints, is.high) }

-- thousandths are between so many units and so many
pub milli_in : (least most : ℤ) (value : Data) (m : Milli) → milli_within least most value ≡ Ok m → IsIn (least *ℤ pos 1000) (most *ℤ pos 1000) m.0
milli_in least most null m e = absurd (cc)
milli_in least most (boolean b) m e = absurd (cc)
milli_in least most (number num) m e =
    let units = then_ok (whole_number least most num) (λ units. Ok (record { 0 = units *ℤ pos 1000 })) m e in
    let is = number_in least most num units.value units.reads in
    let same : record { 0 = units.value *ℤ pos 1000 } ≡ m = cc (units.later) in
    subst (λ (m : Milli). IsIn (least *ℤ pos 1000) (most *ℤ pos 1000) m.0) same (thousandfold least most units.value is)
milli_in least most (string text) m e =
    let read = then_ok (kind_only (decimal_units 3 text) >>= int_within (least *ℤ pos 1000) (most *ℤ pos 1000)) (λ value. Ok (record { 0 = value })) m e in
    let inner = then_ok (kind_only (decimal_units 3 text)) (int_within (least *ℤ pos 1000) (most *ℤ pos 1000)) read.value read.reads in
    let same : record { 0 = read.value } ≡ m = cc (read.later) in
    subst (λ (m : Milli). IsIn (least *ℤ pos 1000) (most *ℤ pos 1000) m.0) same
    (within_is (least *ℤ pos 1000) (most *ℤ pos 1000) inner.value read.value inner.later)
milli_in least most (array items) m e = absurd (cc)
milli_in least most (object ms) m e = absurd (cc)

pub milli_or_in : (least most : ℤ) (found : Option Data) (m : Milli) → IsIn (least *ℤ pos 1000) (most *ℤ pos 1000) (pos 0)
    → member_or no_units (milli_within least most) found ≡ Ok m → IsIn (least *ℤ pos 1000) (most *ℤ pos 1000) m.0
milli_or_in least most None m is e =
    let same : no_units ≡ m = cc in subst (λ (m : Milli). IsIn (least *ℤ pos 1000) (most *ℤ pos 1000) m.0) same is
milli_or_in least most (Some member) m is e = milli_in least most member m e

limit_valid : (value : Data) (limit : Limit) → limit_of value ≡ Ok limit → IsValidLimit limit
limit_valid value limit e =
    let members = then_ok (object_only value) _ limit e in
    let above = then_ok (required (get (codes "Direction") members.value) >>= text_only >>= side_of) _ limit members.later in
    let severity = then_ok (required (get (codes "Severity") members.value) >>= whole_within (pos 0) (pos 1)) _ limit above.later in
    let severe = then_ok (required (get (codes "Severity") members.value)) (whole_within (pos 0) (pos 1)) severity.value severity.reads in
    let at = then_ok (required (get (codes "Value") members.value) >>= any_milli) _ limit severity.later in
    let small = then_ok (required (get (codes "Value") members.value)) any_milli at.value at.reads in
    let hysteresis = then_ok (member_or no_units (milli_within (pos 0) (pos 1000000)) (get (codes "Hysteresis") members.value)) _ limit at.later in
    let narrow = milli_or_in (pos 0) (pos 1000000) (get (codes "Hysteresis") members.value) hysteresis.value
    (record { low = omega (arith, ints); high = omega (arith, ints) }) hysteresis.reads in
    let read : Limit = record { above = above.value; severity = unsigned_abs severity.value; value = at.value; hysteresis = hysteresis.value } in
    let same : read ≡ limit = cc (hysteresis.later) in
    subst IsValidLimit same (record {
      severe = size_in 1 severity.value (whole_in (pos 0) (pos 1) severe.value severity.value severe.later);
      small = size_about 1000000000 at.value.0 (milli_in (neg_ℤ (pos 1000000)) (pos 1000000) small.value at.value small.later);
      upward = narrow.low;
      narrow = size_in 1000000000 hysteresis.value.0 narrow;
    })

-- limits that are read are valid, and as many as there are elements
record AreValid (count : ℕ) (limits : List Limit) : Type 0 where
  size : length limits ≡ count
  valid : All IsValidLimit limits

limits_valid : (values : List Data) (limits : List Limit) → each limit_of values ≡ Ok limits → AreValid (length values) limits
limits_valid [] limits e =
    let same : [] ≡ limits = cc in subst (AreValid 0) same (record { size = refl; valid = All-nil IsValidLimit })
limits_valid (value ∷ values) limits e =
    let first = then_ok (limit_of value) _ limits e in
    let later = then_ok (each limit_of values) _ limits first.later in
    let rest = limits_valid values later.value later.reads in
    let same : first.value ∷ later.value ≡ limits = cc (later.later) in
    subst (AreValid (suc (length values))) same (record {
      size = ap suc rest.size;
      valid = All-cons IsValidLimit first.value later.value (limit_valid value first.value first.reads) rest.valid;
    })

-- those of a sensor are at most eight
record AreFewValid (limits : List Limit) : Type 0 where
  few : length limits ≤ 8
  valid : All IsValidLimit limits

found_valid : (found : Option Data) (limits : List Limit) → member_or [] limits_in found ≡ Ok limits → AreFewValid limits
found_valid None limits e =
    let same : [] ≡ limits = cc in subst AreFewValid same (record { few = omega arith; valid = All-nil IsValidLimit })
found_valid (Some value) limits e =
    let values = then_ok (list_within 0 8 value) (each limit_of) limits e in
    let read = limits_valid values.value limits values.later in
    let few : length values.value ≤ 8 = few_listed 0 8 value values.value (sym values.reads) in
    record { few = omega (arith, few, read.size); valid = read.valid }

-- the slots at the front have the limits
in_use : (limits : List Limit) → length limits ≤ 8 → take (length limits) (eight_limits limits) ≡ limits
in_use limits few =
    take-take (length limits) 8 (limits ++ replicate 8 unused_limit) few ∙ take-append_seam limits (replicate 8 unused_limit)

pub setting_valid : (members : Data) (setting : SensorSetting) → setting_of members ≡ Ok setting → IsValidSetting setting
setting_valid members setting e =
    let num = then_ok (member_or (pos 1) (whole_within (neg_ℤ (pos 1000000)) (pos 1000000)) (get (codes "ScaleNum") members)) _ setting e in
    let den = then_ok (member_or (pos 1) (whole_within (pos 1) (pos 1000000)) (get (codes "ScaleDen") members)) _ setting num.later in
    let offset = then_ok (member_or no_units any_milli (get (codes "Offset") members)) _ setting den.later in
    let timeout = then_ok (member_or (pos 0) (whole_within (pos 0) (pos 1000000)) (get (codes "Timeout") members)) _ setting offset.later in
    let limits = then_ok (member_or [] limits_in (get (codes "Thresholds") members)) _ setting timeout.later in
    let factor = whole_or_in (neg_ℤ (pos 1000000)) (pos 1000000) (pos 1) (get (codes "ScaleNum") members) num.value
    (record { low = omega (arith, ints); high = omega (arith, ints) }) num.reads in
    let divisor = whole_or_in (pos 1) (pos 1000000) (pos 1) (get (codes "ScaleDen") members) den.value
    (record { low = omega (arith, ints); high = omega (arith, ints) }) den.reads in
    let shift = milli_or_in (neg_ℤ (pos 1000000)) (pos 1000000) (get (codes "Offset") members) offset.value
    (record { low = omega (arith, ints); high = omega (arith, ints) }) offset.reads in
    let patience = whole_or_in (pos 0) (pos 1000000) (pos 0) (get (codes "Timeout") members) timeout.value
    (record { low = omega (arith, ints); high = omega (arith, ints) }) timeout.reads in
    let valid = found_valid (get (codes "Thresholds") members) limits.value limits.reads in
    let read : SensorSetting = record {
      num = num.value;
      den = den.value;
      offset = offset.value;
      timeout = unsigned_abs timeout.value;
      limits = eight_limits limits.value;
      count = length limits.value;
    } in
    let same : read ≡ setting = cc (limits.later) in
    subst IsValidSetting same (record {
      scale = record {
        factor = size_about 1000000 num.value factor;
        divides = divisor.low;
        divisor = size_in 1000000 den.value (record { low = omega (arith, ints, divisor.low); high = divisor.high });
        shift = size_about 1000000000 offset.value.0 shift;
      };
      patience = size_in 1000000 timeout.value patience;
      few = valid.few;
      limits = subst (All IsValidLimit) (sym (in_use limits.value valid.few)) valid.valid;
    })
