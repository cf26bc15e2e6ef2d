-- Why an item is refused.
use Rattle.std.specs.Prelude.{ℕ, ◌≡◌, ⊤, Bool, nat_le, nat_lt, unsigned_abs, is_some, is_none, if◌then◌else◌, List, [], ◌∷◌, length}
use Rattle.std.specs.Prelude.{Option, Some, None, option_map, Result, Ok, Err}
use Rattle.fru_area.specs.declared.field.Field.{Field}
use Rattle.fru_area.specs.declared.fault.FruFault.{FruFault}
use Rattle.fru_area.specs.declared.fault.FruFault.TheVariants as rules
use Rattle.fru_record.specs.Records.{record_of}
use Rattle.cfg_json.specs.Shelves.{most_configs, number_of}
use Rattle.cfg_json.specs.declared.config_fault.ConfigFault.{ConfigFault}
use Rattle.cfg_json.specs.declared.config_fault.ConfigFault.TheVariants as faults
use Rattle.bmc_script.specs.declared.command.ScriptFault.{ScriptFault}
use Rattle.bmc_script.specs.declared.command.ScriptFault.TheVariants as lines
use Rattle.bmc_report.specs.declared.refusal.Refusal.{Refusal}
use Rattle.bmc_report.specs.declared.refusal.Refusal.TheVariants.{UnknownCommand, BadArguments, PlaceRange, TickLimit, BadHex}
use Rattle.bmc_report.specs.declared.refusal.Refusal.TheVariants.{NotJson, Fraction, MissingKey, WrongKind, OutOfRange, ProbeSyntax}
use Rattle.bmc_report.specs.declared.refusal.Refusal.TheVariants.{TemplateSyntax, MuxMatchOne, PatternSyntax, PatternTooLarge, ConfigAfterPlug}
use Rattle.bmc_report.specs.declared.refusal.Refusal.TheVariants.{DuplicateName, ConfigLimit, Occupied}
use Rattle.bmc_report.specs.declared.refusal.Refusal.TheVariants.{FruShort, FruTooLong, HeaderVersion, HeaderChecksum, AreaOutside, AreaVersion}
use Rattle.bmc_report.specs.declared.refusal.Refusal.TheVariants.{AreaLength, AreaChecksum, FieldOutside, NoEnd, FruLimit}
use Rattle.bmc_report.specs.declared.refusal.Refusal.TheVariants.{BoardLimit, SensorLimit, ZoneLimit, FanLimit, PidLimit, StepLimit, NotPresent}
use Rattle.bmc_report.specs.declared.refusal.Refusal.TheVariants.{UnknownSensor, ReadingRange}
use Rattle.sensor_core.specs.Settings.{most_raw}
use Rattle.cfg_json.specs.declared.item.Item.{Item}
use Rattle.inventory.specs.Items.{holder}
use Rattle.inventory.specs.declared.family.Family.TheVariants as families
use Rattle.inventory.specs.Limits.{passed_limit}
use Rattle.inventory.specs.declared.fault.InventoryFault.{InventoryFault}
use Rattle.inventory.specs.declared.fault.InventoryFault.TheVariants as limits
use Rattle.bmc_machine.specs.Standings.{Standing, is_present}
use Rattle.bmc_machine.specs.Boards.{board_keys}
use Rattle.bmc_machine.specs.Histories.{Step, Start, Configure, Plug, RefusedPlug, Unplug, Read, Lose, Tick, standing, after_step}
use Rattle.bmc_machine.specs.Indexes.{live_now}

-- the refusal by a rule that bytes break to be a record; want of memory is no rule
abbrev pub record_refusal : FruFault → Option Refusal
record_refusal rules.FruShort = Some FruShort
record_refusal rules.FruTooLong = Some FruTooLong
record_refusal rules.HeaderVersion = Some HeaderVersion
record_refusal rules.HeaderChecksum = Some HeaderChecksum
record_refusal (rules.AreaOutside area) = Some (AreaOutside area)
record_refusal (rules.AreaVersion area) = Some (AreaVersion area)
record_refusal (rules.AreaLength area) = Some (AreaLength area)
record_refusal (rules.AreaChecksum area) = Some (AreaChecksum area)
record_refusal (rules.FieldOutside area) = Some (FieldOutside area)
record_refusal (rules.NoEnd area) = Some (NoEnd area)
record_refusal rules.OutOfMemory = None

-- the refusal by a rule that a line breaks to have a command; want of memory is no rule
abbrev pub command_refusal : ScriptFault → Option Refusal
command_refusal lines.UnknownCommand = Some UnknownCommand
command_refusal lines.BadArguments = Some BadArguments
command_refusal lines.PlaceRange = Some PlaceRange
command_refusal lines.TickLimit = Some TickLimit
command_refusal lines.BadHex = Some BadHex
command_refusal lines.OutOfMemory = None

-- the refusal by a rule that a document breaks; want of memory is no rule
abbrev pub config_refusal : ConfigFault → Option Refusal
config_refusal faults.NotJson = Some NotJson
config_refusal faults.Fraction = Some Fraction
config_refusal faults.MissingKey = Some MissingKey
config_refusal faults.WrongKind = Some WrongKind
config_refusal faults.OutOfRange = Some OutOfRange
config_refusal (faults.ProbeSyntax at) = Some ProbeSyntax
config_refusal faults.TemplateSyntax = Some TemplateSyntax
config_refusal faults.MuxMatchOne = Some MuxMatchOne
config_refusal (faults.PatternSyntax text) = Some PatternSyntax
config_refusal (faults.PatternTooLarge text) = Some PatternTooLarge
config_refusal faults.OutOfMemory = None

-- the most FRUs that are present at one time
abbrev pub most_frus : ℕ
most_frus = 256

-- the refusal of bytes: by the first rule that they break, and else by the limit where it is met
abbrev pub plug_refusal : Bool → Result (List Field) FruFault → Option Refusal
plug_refusal is_full (Ok fields) = if is_full then Some FruLimit else None
plug_refusal is_full (Err rule) = record_refusal rule

-- the refusal by a limit of the inventory
abbrev pub limit_refusal : InventoryFault → Refusal
limit_refusal limits.BoardLimit = BoardLimit
limit_refusal limits.SensorLimit = SensorLimit
limit_refusal limits.ZoneLimit = ZoneLimit
limit_refusal limits.FanLimit = FanLimit
limit_refusal limits.PidLimit = PidLimit
limit_refusal limits.StepLimit = StepLimit

-- the refusal where this would stand: by the first limit that its boards pass
abbrev pub refusal_by_limit : Standing → Option Refusal
refusal_by_limit after = option_map limit_refusal (passed_limit after.configs (board_keys after))

-- the first refusal that applies
infixr 5 ◌or_else◌
abbrev pub ◌or_else◌ : Option Refusal → Option Refusal → Option Refusal
(Some refusal) or_else later = Some refusal
None or_else later = later

-- whether no live sensor has this name
abbrev pub is_unknown : List Item → List ℕ → Bool
is_unknown live name = is_none (holder live families.Sensor name)

-- why a step is refused where this stands and these items are live, or none
abbrev pub refusal_of : Standing → List Item → Step → Option Refusal
refusal_of now live (Start options) = None
refusal_of now live (Configure config) =
    if now.plugged then Some ConfigAfterPlug
    else if is_some (number_of now.configs config.name) then Some DuplicateName
    else if nat_le most_configs (length now.configs) then Some ConfigLimit
    else refusal_by_limit (after_step now (Configure config))
refusal_of now live (Plug place bytes) =
    if is_present now.frus place then Some Occupied
    else plug_refusal (nat_le most_frus (length now.frus)) (record_of bytes) or_else refusal_by_limit (after_step now (Plug place bytes))
refusal_of now live (RefusedPlug place bytes refusal) = None
refusal_of now live (Unplug place) = if is_present now.frus place then None else Some NotPresent
refusal_of now live (Read name raw) =
    if is_unknown live name then Some UnknownSensor
    else if nat_lt most_raw (unsigned_abs raw) then Some ReadingRange
    else None
refusal_of now live (Lose name) = if is_unknown live name then Some UnknownSensor else None
refusal_of now live Tick = None

-- why a step is refused after a history, or none
abbrev pub refusal_after : List Step → Step → Option Refusal
refusal_after past step = refusal_of (standing past) (live_now past) step

-- a step may follow a history: it is not refused there, or it says for which reason a plug is
abbrev pub IsLegalStep : List Step → Step → Type 0
IsLegalStep past (Start options) = ⊤
IsLegalStep past (Configure config) = refusal_after past (Configure config) ≡ None
IsLegalStep past (Plug place bytes) = refusal_after past (Plug place bytes) ≡ None
IsLegalStep past (RefusedPlug place bytes refusal) = refusal_after past (Plug place bytes) ≡ Some refusal
IsLegalStep past (Unplug place) = refusal_after past (Unplug place) ≡ None
IsLegalStep past (Read name raw) = refusal_after past (Read name raw) ≡ None
IsLegalStep past (Lose name) = refusal_after past (Lose name) ≡ None
IsLegalStep past Tick = ⊤

-- each step of a history may follow those before it
unfoldable pub IsLegal : List Step → Type 0
IsLegal [] = ⊤
IsLegal (step ∷ past) = IsLegal past × IsLegalStep past step
