-- The channels of a multiplexer.
use Rattle.std.specs.Prelude.{ℕ, ◌&&◌, not, nat_le, if◌then◌else◌, List, filter_map, Option, Some, None, Result, Ok, Err}
use Rattle.bmc_base.specs.Places.{last_bus}
use Rattle.serde_json.specs.Data.{Num, unsigned, negative, float, Data, null, boolean, number, string, array, object}
use Rattle.tmpl.specs.Numbers.{fixed_number}
use Rattle.tmpl.specs.Templates.{is_template, is_single, uses_index}
use Rattle.cfg_json.specs.declared.channels.Channel.{Channel}
use Rattle.cfg_json.specs.declared.channels.Channel.TheVariants.{Fixed, Moving}
use Rattle.cfg_json.specs.declared.config_fault.ConfigFault.{ConfigFault}
use Rattle.cfg_json.specs.declared.config_fault.ConfigFault.TheVariants.{WrongKind, OutOfRange, TemplateSyntax}
use Rattle.cfg_json.specs.declared.expose.MuxPart.{MuxPart}
use Rattle.cfg_json.specs.Values.{◌>>=◌, list_within, each}

-- the most channels of a multiplexer
abbrev pub most_channels : ℕ
most_channels = 16

-- a channel to the bus with this number
abbrev pub to_bus : ℕ → Result Channel ConfigFault
to_bus n = if nat_le n last_bus then Ok (Fixed n) else Err OutOfRange

abbrev pub number_channel : Num → Result Channel ConfigFault
number_channel (unsigned n) = to_bus n
number_channel (negative n) = Err OutOfRange
number_channel (float x) = Err WrongKind

-- a channel that moves with the place: one substitution and nothing else, which does not ask for the index
abbrev pub moving_channel : List ℕ → Result Channel ConfigFault
moving_channel text = if is_template text && is_single text && not (uses_index text) then Ok (Moving text) else Err TemplateSyntax

-- a channel of a text that has this number, if it has one
abbrev pub text_channel : Option ℕ → List ℕ → Result Channel ConfigFault
text_channel (Some n) text = to_bus n
text_channel None text = moving_channel text

abbrev pub channel_of : Data → Result Channel ConfigFault
channel_of (number n) = number_channel n
channel_of (string text) = text_channel (fixed_number text) text
channel_of null = Err WrongKind
channel_of (boolean b) = Err WrongKind
channel_of (array items) = Err WrongKind
channel_of (object ms) = Err WrongKind

-- the bus of a channel that is fixed, and the template of one that moves
abbrev pub fixed_bus : Channel → Option ℕ
fixed_bus (Fixed bus) = Some bus
fixed_bus (Moving template) = None

abbrev pub moving_template : Channel → Option (List ℕ)
moving_template (Fixed bus) = None
moving_template (Moving template) = Some template

-- a multiplexer with these channels
abbrev pub mux_with : List Channel → MuxPart
mux_with channels = record { fixed = filter_map fixed_bus channels; moving = filter_map moving_template channels }

abbrev pub mux_of : Data → Result MuxPart ConfigFault
mux_of value = list_within 1 most_channels value >>= each channel_of >>= λ channels. Ok (mux_with channels)
