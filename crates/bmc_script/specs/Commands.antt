-- The command of a line of a script.
use Rattle.std.specs.Prelude.{ℕ, ◌≡◌, ⊤, Bool, true, ◌==◌, nat_lt, ◌||◌, if◌then◌else◌, List, [], ◌∷◌, length, reverse, codes, bytes_eq}
use Rattle.std.specs.Prelude.{Option, Some, None, option_map, Result, Ok, Err}
use Rattle.std.specs.Str.{is_utf8}
use Rattle.std.specs.List.{list_any}
use Rattle.std.specs.Option.{ok_or, unwrap_or}
use Rattle.std.specs.Result.{result_ok}
use Rattle.bmc_base.specs.Names.{name_of}
use Rattle.bmc_base.specs.Places.{Place, place_of}
use Rattle.bmc_report.specs.declared.topic.Topic.{Topic}
use Rattle.bmc_report.specs.declared.topic.Topic.TheVariants.{Frus, Inventory, Sensors, Zones, Log, Indexes}
use Rattle.bmc_text.specs.Hex.{hex_decoded}
use Rattle.bmc_text.specs.Words.{split_space, number, raw}
use Rattle.bmc_script.specs.declared.command.Command.{Command}
use Rattle.bmc_script.specs.declared.command.Command.TheVariants.{Config, Plug, Unplug, Good, Lost, Ticks, Show, Nothing}
use Rattle.bmc_script.specs.declared.command.ScriptFault.{ScriptFault}
use Rattle.bmc_script.specs.declared.command.ScriptFault.TheVariants.{UnknownCommand, BadArguments, PlaceRange, TickLimit, BadHex, OutOfMemory}

-- the ? of a result
infixl 10 ◌>>=◌
abbrev pub ◌>>=◌ : {A B : Type 0} → Result A ScriptFault → (A → Result B ScriptFault) → Result B ScriptFault
(Ok value) >>= f = f value
(Err fault) >>= f = Err fault

-- the place that these two words name
unfoldable pub place_named : List ℕ → List ℕ → Result Place ScriptFault
place_named bus address = do
  bus_number ← ok_or (number bus) BadArguments
  address_number ← ok_or (number address) BadArguments
  ok_or (place_of bus_number address_number) PlaceRange

-- a text of one character or more without a space (32)
abbrev pub one_word : List ℕ → Option (List ℕ)
one_word text = if length text == 0 || list_any (λ byte. byte == 32) text then None else Some text

-- `plug B A HEX`, behind its first word
unfoldable pub plug_of : List ℕ → Result Command ScriptFault
plug_of rest = do
  bus ← ok_or (split_space rest) BadArguments
  address ← ok_or (split_space bus.1) BadArguments
  digits ← ok_or (one_word address.1) BadArguments
  place ← place_named bus.0 address.0
  bytes ← ok_or (hex_decoded digits) BadHex
  Ok (Plug place bytes)

-- `unplug B A`, behind its first word
unfoldable pub unplug_of : List ℕ → Result Command ScriptFault
unplug_of rest = do
  bus ← ok_or (split_space rest) BadArguments
  place ← place_named bus.0 bus.1
  Ok (Unplug place)

-- `config N`, behind its first word
unfoldable pub config_of : List ℕ → Result Command ScriptFault
config_of rest = do
  size ← ok_or (number rest) BadArguments
  Ok (Config size)

-- a text at its last space, the first from behind: what stands before it, and what behind it
abbrev pub split_last_space : List ℕ → Option (List ℕ × List ℕ)
split_last_space text = option_map (λ parts. (reverse parts.1, reverse parts.0)) (split_space (reverse text))

-- the name of these bytes, if they are UTF-8 and as many as a name has
abbrev pub name_in : List ℕ → Option (List ℕ)
name_in bytes = if is_utf8 bytes then result_ok (name_of bytes) else None

-- `read NAME RAW`, behind its first word
unfoldable pub read_of : List ℕ → Result Command ScriptFault
read_of rest = do
  parts ← ok_or (split_last_space rest) BadArguments
  name ← ok_or (name_in parts.0) BadArguments
  number ← ok_or (raw parts.1) BadArguments
  Ok (Good name number)

-- `lose NAME`, behind its first word
unfoldable pub lose_of : List ℕ → Result Command ScriptFault
lose_of rest = do
  name ← ok_or (name_in rest) BadArguments
  Ok (Lost name)

-- how many ticks a line lets pass at the most
abbrev pub most_ticks : ℕ
most_ticks = 36000

-- `tick N`, behind its first word
unfoldable pub ticks_of : List ℕ → Result Command ScriptFault
ticks_of rest = do
  count ← ok_or (number rest) BadArguments
  if count == 0 || nat_lt most_ticks count then Err TickLimit else Ok (Ticks count)

-- the topic of this word, if there is one
abbrev pub topic_of : List ℕ → Option Topic
topic_of word =
    if bytes_eq word (codes "frus") then Some Frus
    else if bytes_eq word (codes "inventory") then Some Inventory
    else if bytes_eq word (codes "sensors") then Some Sensors
    else if bytes_eq word (codes "zones") then Some Zones
    else if bytes_eq word (codes "log") then Some Log
    else if bytes_eq word (codes "indexes") then Some Indexes
    else None

-- `show TOPIC`, behind its first word
unfoldable pub show_of : List ℕ → Result Command ScriptFault
show_of rest = do
  topic ← ok_or (topic_of rest) BadArguments
  Ok (Show topic)

-- the command of this first word with what stands behind it
abbrev pub verb_command : List ℕ → List ℕ → Result Command ScriptFault
verb_command verb rest =
    if bytes_eq verb (codes "plug") then plug_of rest
    else if bytes_eq verb (codes "unplug") then unplug_of rest
    else if bytes_eq verb (codes "config") then config_of rest
    else if bytes_eq verb (codes "read") then read_of rest
    else if bytes_eq verb (codes "lose") then lose_of rest
    else if bytes_eq verb (codes "tick") then ticks_of rest
    else if bytes_eq verb (codes "show") then show_of rest
    else Err UnknownCommand

-- the first word of a line, and what stands behind the first space: nothing where there is no space
abbrev pub first_word : List ℕ → List ℕ × List ℕ
first_word line = unwrap_or (split_space line) (line, [])

-- the command of a line that is no comment
unfoldable pub words_of : List ℕ → Result Command ScriptFault
words_of line = verb_command (first_word line).0 (first_word line).1

-- what a comment begins with, `#`
abbrev pub comment_mark : ℕ
comment_mark = 35

-- whether a line asks for nothing: it is empty, or a comment
abbrev pub is_blank : List ℕ → Bool
is_blank [] = true
is_blank (first ∷ rest) = first == comment_mark

-- the command of a line, or the first rule that it breaks: an empty line and a comment do nothing
unfoldable pub command_of : List ℕ → Result Command ScriptFault
command_of [] = Ok Nothing
command_of (first ∷ rest) = if first == comment_mark then Ok Nothing else words_of (first ∷ rest)

-- what is answered of a line whose command is read so: just that, but for want of memory
abbrev pub GivesCommand : Result Command ScriptFault → Result Command ScriptFault → Type 0
GivesCommand (Err OutOfMemory) read = ⊤
GivesCommand answer read = read ≡ answer
