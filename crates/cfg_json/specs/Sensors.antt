-- The sensors of a document.
use Rattle.std.specs.Prelude.{ℕ, ◌&&◌, nat_le, if◌then◌else◌, pos, neg_ℤ, unsigned_abs, Bool, true, false, bytes_eq, codes, decimal}
use Rattle.std.specs.Prelude.{List, [], ◌++◌, length, take, replicate, Option, Some, None, Result, Ok, Err}
use Rattle.bmc_base.specs.Places.{last_bus, last_address}
use Rattle.serde_json.specs.Data.{Num, unsigned, negative, float, Data, null, boolean, number, string, array, object}
use Rattle.serde_json.specs.Find.{get}
use Rattle.tmpl.specs.Numbers.{fixed_number}
use Rattle.tmpl.specs.Templates.{is_template, is_single}
use Rattle.sensor_core.specs.declared.limit.Limit.{Limit}
use Rattle.sensor_core.specs.declared.setting.SensorSetting.{SensorSetting}
use Rattle.sensor_core.specs.Settings.{most_limits}
use Rattle.cfg_json.specs.declared.config_fault.ConfigFault.{ConfigFault}
use Rattle.cfg_json.specs.declared.config_fault.ConfigFault.TheVariants.{WrongKind, OutOfRange, TemplateSyntax}
use Rattle.cfg_json.specs.declared.expose.SensorPart.{SensorPart}
use Rattle.cfg_json.specs.Values.{◌>>=◌, required, text_only, object_only, list_within, each, whole_within, milli_within, any_milli}
use Rattle.cfg_json.specs.Values.{no_units, member_or, optional}

-- the template of a fixed number, which is at most so many: its decimal digits
abbrev pub fixed_template : ℕ → ℕ → Result (List ℕ) ConfigFault
fixed_template most n = if nat_le n most then Ok (decimal n) else Err OutOfRange

abbrev pub whole_template : ℕ → Num → Result (List ℕ) ConfigFault
whole_template most (unsigned n) = fixed_template most n
whole_template most (negative n) = Err OutOfRange
whole_template most (float x) = Err WrongKind

-- the template of a number that is rendered: one substitution with its operations and nothing else
abbrev pub single_template : List ℕ → Result (List ℕ) ConfigFault
single_template text = if is_template text && is_single text then Ok text else Err TemplateSyntax

-- the template of a text that has this number, if it has one
abbrev pub text_template : ℕ → Option ℕ → List ℕ → Result (List ℕ) ConfigFault
text_template most (Some n) text = fixed_template most n
text_template most None text = single_template text

-- the template of a number from 0 to so many
abbrev pub number_template : ℕ → Data → Result (List ℕ) ConfigFault
number_template most (number n) = whole_template most n
number_template most (string text) = text_template most (fixed_number text) text
number_template most null = Err WrongKind
number_template most (boolean b) = Err WrongKind
number_template most (array items) = Err WrongKind
number_template most (object ms) = Err WrongKind

-- the side of a limit: true where an alarm goes on above it
abbrev pub side_of : List ℕ → Result Bool ConfigFault
side_of text = if bytes_eq text (codes "greater than") then Ok true else if bytes_eq text (codes "less than") then Ok false else Err OutOfRange

-- a limit of a sensor
abbrev pub limit_of : Data → Result Limit ConfigFault
limit_of value =
    object_only value >>= λ members.
    required (get (codes "Direction") members) >>= text_only >>= side_of >>= λ above.
    required (get (codes "Severity") members) >>= whole_within (pos 0) (pos 1) >>= λ severity.
    required (get (codes "Value") members) >>= any_milli >>= λ at.
    member_or no_units (milli_within (pos 0) (pos 1000000)) (get (codes "Hysteresis") members) >>= λ hysteresis.
    Ok (record { above = above; severity = unsigned_abs severity; value = at; hysteresis = hysteresis })

-- a limit that is not in use
abbrev pub unused_limit : Limit
unused_limit = record { above = false; severity = 0; value = no_units; hysteresis = no_units }

-- the limits in eight slots, of which the last ones may be unused
abbrev pub eight_limits : List Limit → List Limit
eight_limits limits = take most_limits (limits ++ replicate most_limits unused_limit)

-- the limits of a sensor, of which there are at most eight
abbrev pub limits_in : Data → Result (List Limit) ConfigFault
limits_in value = list_within 0 most_limits value >>= each limit_of

-- the limits of a sensor, if they are given: in eight slots, and how many there are
abbrev pub slots_of : Option Data → Result (List Limit × ℕ) ConfigFault
slots_of found = member_or [] limits_in found >>= λ limits. Ok (eight_limits limits, length limits)

-- the setting of a sensor
abbrev pub setting_of : Data → Result SensorSetting ConfigFault
setting_of members =
    member_or (pos 1) (whole_within (neg_ℤ (pos 1000000)) (pos 1000000)) (get (codes "ScaleNum") members) >>= λ num.
    member_or (pos 1) (whole_within (pos 1) (pos 1000000)) (get (codes "ScaleDen") members) >>= λ den.
    member_or no_units any_milli (get (codes "Offset") members) >>= λ offset.
    member_or (pos 0) (whole_within (pos 0) (pos 1000000)) (get (codes "Timeout") members) >>= λ timeout.
    member_or [] limits_in (get (codes "Thresholds") members) >>= λ limits.
    Ok (record { num = num; den = den; offset = offset; timeout = unsigned_abs timeout; limits = eight_limits limits; count = length limits })

-- a sensor: the bus and the address at which it is, where they are given, and its setting
abbrev pub sensor_of : Data → Result SensorPart ConfigFault
sensor_of members =
    optional (number_template last_bus) (get (codes "Bus") members) >>= λ bus.
    optional (number_template last_address) (get (codes "Address") members) >>= λ address.
    setting_of members >>= λ setting.
    Ok (record { bus = bus; address = address; setting = setting })
