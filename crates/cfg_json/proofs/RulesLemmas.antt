-- Reading a document names no pattern: that is left to compiling them.
use Rattle.std.specs.Prelude.{pos, neg_ℤ, bytes_eq, decimal}
use Rattle.std.proofs.Common.{◌&&◌, not, ℕ, true, false, nat_le, List, [], codes, Option, Some, None, Result, Ok, Err}
use Rattle.std.specs.List.{list_any}
use Rattle.sensor_core.specs.Settings.{most_limits}
use Rattle.bmc_base.specs.Places.{last_bus, last_address}
use Rattle.serde_json.specs.Data.{Num, unsigned, negative, float, Data, null, boolean, number, string, array, object}
use Rattle.serde_json.specs.Find.{get}
use Rattle.serde_json.specs.Written.{has_float}
use Rattle.probe_lang.specs.Grammar.{Parsed, probe_of, most_texts}
use Rattle.tmpl.specs.Numbers.{fixed_number}
use Rattle.tmpl.specs.Templates.{is_template, is_single, uses_index}
use Rattle.cfg_json.specs.declared.config_fault.ConfigFault.TheVariants.{Fraction, OutOfRange, TemplateSyntax, MuxMatchOne}
use Rattle.cfg_json.specs.declared.channels.Channel.TheVariants.{Fixed, Moving}
use Rattle.cfg_json.specs.Values.{◌>>=◌, required, text_only, object_only, list_of, list_only, with_length, short_text, each}
use Rattle.cfg_json.specs.Values.{milli_within, any_milli, whole_within, no_units, member_or, optional}
use Rattle.cfg_json.specs.Names.{template_name}
use Rattle.cfg_json.specs.Probes.{probe_texts, by_grammar, probe_in}
use Rattle.cfg_json.specs.Channels.{most_channels, to_bus, number_channel, moving_channel, text_channel, channel_of, mux_of}
use Rattle.cfg_json.specs.Sensors.{fixed_template, whole_template, single_template, text_template, number_template, side_of, limit_of, limits_in}
use Rattle.cfg_json.specs.Sensors.{setting_of, sensor_of}
use Rattle.cfg_json.specs.Controls.{pid_control, stepwise_control}
use Rattle.cfg_json.specs.Exposes.{most_exposes, zone_of, body_of, expose_of, exposes_of, has_moving}
use Rattle.cfg_json.specs.Documents.{config_in, config_of}
use Rattle.cfg_json.proofs.PartsLemmas.{NamesNoPattern, then_none, each_none, where_none, length_none, required_none, text_none, object_none, list_none}
use Rattle.cfg_json.proofs.PartsLemmas.{short_none, name_none, milli_none, member_none, optional_none, whole_within_none}
use Rattle.cfg_json.proofs.ControlsLemmas.{pid_none, stepwise_none}

texts_none : (value : Data) → NamesNoPattern (probe_texts value)
texts_none null = tt
texts_none (boolean b) = tt
texts_none (number n) = tt
texts_none (string text) = tt
texts_none (array items) = then_none (with_length 1 most_texts (list_of items)) _ (length_none 1 most_texts (list_of items)) (each_none text_only text_none)
texts_none (object ms) = tt

grammar_none : (read : Result Parsed ℕ) → NamesNoPattern (by_grammar read)
grammar_none (Ok parsed) = tt
grammar_none (Err at) = tt

probe_none : (value : Data) → NamesNoPattern (probe_in value)
probe_none value = then_none (probe_texts value) _ (texts_none value) (λ texts. grammar_none (probe_of texts))

zone_none : (members : Data) → NamesNoPattern (zone_of members)
zone_none members =
    then_none (required (get (codes "MinThermalOutput") members) >>= any_milli) _
    (then_none (required (get (codes "MinThermalOutput") members)) _ (required_none (get (codes "MinThermalOutput") members))
    (milli_none (neg_ℤ (pos 1000000)) (pos 1000000))) (λ least.
    then_none (required (get (codes "FailSafePercent") members) >>= milli_within (pos 0) (pos 100)) _
    (then_none (required (get (codes "FailSafePercent") members)) _ (required_none (get (codes "FailSafePercent") members))
    (milli_none (pos 0) (pos 100))) (λ failsafe. tt))

bus_none : (n : ℕ) → NamesNoPattern (to_bus n)
bus_none n = where_none (nat_le n last_bus) (Ok (Fixed n)) (Err OutOfRange) tt tt

number_none : (n : Num) → NamesNoPattern (number_channel n)
number_none (unsigned n) = bus_none n
number_none (negative n) = tt
number_none (float x) = tt

moving_none : (text : List ℕ) → NamesNoPattern (moving_channel text)
moving_none text = where_none (is_template text && is_single text && not (uses_index text)) (Ok (Moving text)) (Err TemplateSyntax) tt tt

text_channel_none : (n : Option ℕ) (text : List ℕ) → NamesNoPattern (text_channel n text)
text_channel_none None text = moving_none text
text_channel_none (Some n) text = bus_none n

channel_none : (value : Data) → NamesNoPattern (channel_of value)
channel_none null = tt
channel_none (boolean b) = tt
channel_none (number n) = number_none n
channel_none (string text) = text_channel_none (fixed_number text) text
channel_none (array items) = tt
channel_none (object ms) = tt

mux_none : (value : Data) → NamesNoPattern (mux_of value)
mux_none value =
    then_none (list_only value >>= with_length 1 most_channels >>= each channel_of) _
    (then_none (list_only value >>= with_length 1 most_channels) _ (then_none (list_only value) _ (list_none value) (length_none 1 most_channels))
    (each_none channel_of channel_none)) (λ channels. tt)

fixed_none : (most n : ℕ) → NamesNoPattern (fixed_template most n)
fixed_none most n = where_none (nat_le n most) (Ok (decimal n)) (Err OutOfRange) tt tt

whole_template_none : (most : ℕ) (n : Num) → NamesNoPattern (whole_template most n)
whole_template_none most (unsigned n) = fixed_none most n
whole_template_none most (negative n) = tt
whole_template_none most (float x) = tt

single_none : (text : List ℕ) → NamesNoPattern (single_template text)
single_none text = where_none (is_template text && is_single text) (Ok text) (Err TemplateSyntax) tt tt

text_template_none : (most : ℕ) (n : Option ℕ) (text : List ℕ) → NamesNoPattern (text_template most n text)
text_template_none most None text = single_none text
text_template_none most (Some n) text = fixed_none most n

number_template_none : (most : ℕ) (value : Data) → NamesNoPattern (number_template most value)
number_template_none most null = tt
number_template_none most (boolean b) = tt
number_template_none most (number n) = whole_template_none most n
number_template_none most (string text) = text_template_none most (fixed_number text) text
number_template_none most (array items) = tt
number_template_none most (object ms) = tt

side_none : (text : List ℕ) → NamesNoPattern (side_of text)
side_none text =
    where_none (bytes_eq text (codes "greater than")) (Ok true) _ tt (where_none (bytes_eq text (codes "less than")) (Ok false) (Err OutOfRange) tt tt)

limit_none : (value : Data) → NamesNoPattern (limit_of value)
limit_none value =
    then_none (object_only value) _ (object_none value) (λ members.
    then_none (required (get (codes "Direction") members) >>= text_only >>= side_of) _
    (then_none (required (get (codes "Direction") members) >>= text_only) _
    (then_none (required (get (codes "Direction") members)) _ (required_none (get (codes "Direction") members)) text_none) side_none) (λ above.
    then_none (required (get (codes "Severity") members) >>= whole_within (pos 0) (pos 1)) _
    (then_none (required (get (codes "Severity") members)) _ (required_none (get (codes "Severity") members))
    (whole_within_none (pos 0) (pos 1))) (λ severity.
    then_none (required (get (codes "Value") members) >>= any_milli) _
    (then_none (required (get (codes "Value") members)) _ (required_none (get (codes "Value") members))
    (milli_none (neg_ℤ (pos 1000000)) (pos 1000000))) (λ at.
    then_none (member_or no_units (milli_within (pos 0) (pos 1000000)) (get (codes "Hysteresis") members)) _
    (member_none no_units _ (milli_none (pos 0) (pos 1000000)) (get (codes "Hysteresis") members)) (λ hysteresis. tt)))))

limits_none : (value : Data) → NamesNoPattern (limits_in value)
limits_none value =
    then_none (list_only value >>= with_length 0 most_limits) _ (then_none (list_only value) _ (list_none value) (length_none 0 most_limits))
    (each_none limit_of limit_none)

setting_none : (members : Data) → NamesNoPattern (setting_of members)
setting_none members =
    then_none (member_or (pos 1) (whole_within (neg_ℤ (pos 1000000)) (pos 1000000)) (get (codes "ScaleNum") members)) _
    (member_none (pos 1) _ (whole_within_none (neg_ℤ (pos 1000000)) (pos 1000000)) (get (codes "ScaleNum") members)) (λ num.
    then_none (member_or (pos 1) (whole_within (pos 1) (pos 1000000)) (get (codes "ScaleDen") members)) _
    (member_none (pos 1) _ (whole_within_none (pos 1) (pos 1000000)) (get (codes "ScaleDen") members)) (λ den.
    then_none (member_or no_units any_milli (get (codes "Offset") members)) _
    (member_none no_units _ (milli_none (neg_ℤ (pos 1000000)) (pos 1000000)) (get (codes "Offset") members)) (λ offset.
    then_none (member_or (pos 0) (whole_within (pos 0) (pos 1000000)) (get (codes "Timeout") members)) _
    (member_none (pos 0) _ (whole_within_none (pos 0) (pos 1000000)) (get (codes "Timeout") members)) (λ timeout.
    then_none (member_or [] limits_in (get (codes "Thresholds") members)) _
    (member_none [] limits_in limits_none (get (codes "Thresholds") members)) (λ limits. tt)))))

sensor_none : (members : Data) → NamesNoPattern (sensor_of members)
sensor_none members =
    then_none (optional (number_template last_bus) (get (codes "Bus") members)) _
    (optional_none _ (number_template_none last_bus) (get (codes "Bus") members)) (λ bus.
    then_none (optional (number_template last_address) (get (codes "Address") members)) _
    (optional_none _ (number_template_none last_address) (get (codes "Address") members)) (λ address.
    then_none (setting_of members) _ (setting_none members) (λ setting. tt)))

body_none : (members : Data) (kind : List ℕ) → NamesNoPattern (body_of members kind)
unfolding body_of
body_none members kind =
    where_none (bytes_eq kind (codes "Sensor")) _ _ (then_none (sensor_of members) _ (sensor_none members) (λ part. tt))
    (where_none (bytes_eq kind (codes "Fan")) _ _ tt
    (where_none (bytes_eq kind (codes "Pid.Zone")) _ _ (then_none (zone_of members) _ (zone_none members) (λ setting. tt))
    (where_none (bytes_eq kind (codes "Pid")) _ _ (then_none (pid_control members) _ (pid_none members) (λ part. tt))
    (where_none (bytes_eq kind (codes "Stepwise")) _ _ (then_none (stepwise_control members) _ (stepwise_none members) (λ part. tt))
    (where_none (bytes_eq kind (codes "Mux")) _ _
    (then_none (required (get (codes "Channels") members) >>= mux_of) _
    (then_none (required (get (codes "Channels") members)) _ (required_none (get (codes "Channels") members)) mux_none) (λ part. tt))
    tt)))))

expose_none : (value : Data) → NamesNoPattern (expose_of value)
expose_none value =
    then_none (object_only value) _ (object_none value) (λ members.
    then_none (required (get (codes "Name") members) >>= template_name) _
    (then_none (required (get (codes "Name") members)) _ (required_none (get (codes "Name") members)) name_none) (λ name.
    then_none (required (get (codes "Type") members) >>= short_text) _
    (then_none (required (get (codes "Type") members)) _ (required_none (get (codes "Type") members)) short_none) (λ kind.
    then_none (body_of members kind) _ (body_none members kind) (λ body. tt))))

exposes_none : (found : Option Data) → NamesNoPattern (exposes_of found)
exposes_none None = tt
exposes_none (Some value) =
    then_none (list_only value >>= with_length 0 most_exposes) _ (then_none (list_only value) _ (list_none value) (length_none 0 most_exposes))
    (each_none expose_of expose_none)

config_in_none : (document : Data) → NamesNoPattern (config_in document)
unfolding config_in
config_in_none document =
    then_none (object_only document) _ (object_none document) (λ members.
    then_none (required (get (codes "Name") members) >>= short_text) _
    (then_none (required (get (codes "Name") members)) _ (required_none (get (codes "Name") members)) short_none) (λ name.
    then_none (required (get (codes "Probe") members) >>= probe_in) _
    (then_none (required (get (codes "Probe") members)) _ (required_none (get (codes "Probe") members)) probe_none) (λ parsed.
    then_none (exposes_of (get (codes "Exposes") members)) _ (exposes_none (get (codes "Exposes") members)) (λ exposes.
    where_none (parsed.0.match_one && list_any has_moving exposes) (Err MuxMatchOne) _ tt tt))))

-- reading a document names no pattern
pub document_names_none : (read : Option Data) → NamesNoPattern (config_of read)
unfolding config_of
document_names_none None = tt
document_names_none (Some document) = where_none (has_float document) (Err Fraction) (config_in document) tt (config_in_none document)
