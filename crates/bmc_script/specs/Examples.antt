-- What the computed examples ask for.
use Rattle.std.specs.Prelude.{ℕ, ℤ, List, [], ◌∷◌, negsuc, replicate, Result, Ok, Err}
use Rattle.bmc_base.specs.Places.{Place}
use Rattle.bmc_report.specs.declared.topic.Topic.{Topic}
use Rattle.bmc_script.specs.declared.command.Command.{Command}
use Rattle.bmc_script.specs.declared.command.Command.TheVariants.{Config, Plug, Unplug, Good, Lost, Ticks, Show, Nothing}
use Rattle.bmc_script.specs.declared.command.ScriptFault.{ScriptFault}
use Rattle.bmc_script.specs.declared.command.ScriptFault.TheVariants.{UnknownCommand, BadArguments, PlaceRange, TickLimit, BadHex}

abbrev pub bus_1_80 : Place
bus_1_80 = record { bus = 1; address = 80 }

abbrev pub configured : Result Command ScriptFault
configured = Ok (Config 7)

abbrev pub plugged : Result Command ScriptFault
plugged = Ok (Plug bus_1_80 (10 ∷ 255 ∷ []))

abbrev pub unplugged : Result Command ScriptFault
unplugged = Ok (Unplug bus_1_80)

-- a sensor of this name was read
abbrev pub read_as : List ℕ → ℤ → Result Command ScriptFault
read_as name number = Ok (Good name number)

-- 41 degrees below zero, in thousandths
abbrev pub frost : ℤ
frost = negsuc 40999

abbrev pub lost : List ℕ → Result Command ScriptFault
lost name = Ok (Lost name)

-- a name of as many bytes
abbrev pub name_of_size : ℕ → List ℕ
name_of_size count = replicate count 65

abbrev pub ticked : ℕ → Result Command ScriptFault
ticked count = Ok (Ticks count)

abbrev pub shown : Topic → Result Command ScriptFault
shown topic = Ok (Show topic)

abbrev pub nothing : Result Command ScriptFault
nothing = Ok Nothing

abbrev pub unknown : Result Command ScriptFault
unknown = Err UnknownCommand

abbrev pub malformed : Result Command ScriptFault
malformed = Err BadArguments

abbrev pub out_of_range : Result Command ScriptFault
out_of_range = Err PlaceRange

abbrev pub ticks_out_of_range : Result Command ScriptFault
ticks_out_of_range = Err TickLimit

abbrev pub not_hexadecimal : Result Command ScriptFault
not_hexadecimal = Err BadHex
