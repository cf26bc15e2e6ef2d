-- Why files and lines are refused, as text.
use Rattle.std.specs.Prelude.{ℕ, List, [], ◌++◌, codes, decimal, Option, Some, None}
use Rattle.fru_area.specs.declared.fault.Area.{Area}
use Rattle.fru_area.specs.declared.fault.Area.TheVariants.{Chassis, Board, Product}
use Rattle.bmc_report.specs.declared.refusal.Origin.{Origin}
use Rattle.bmc_report.specs.declared.refusal.Origin.TheVariants.{File, Line}
use Rattle.bmc_report.specs.declared.refusal.Refusal.{Refusal}
use Rattle.bmc_report.specs.declared.refusal.Refusal.TheVariants.{LineTooLong, UnknownCommand, BadArguments, PlaceRange, TickLimit, BadHex}
use Rattle.bmc_report.specs.declared.refusal.Refusal.TheVariants.{ConfigTooLong, ConfigShort}
use Rattle.bmc_report.specs.declared.refusal.Refusal.TheVariants.{NotJson, Fraction, MissingKey, WrongKind, OutOfRange, ProbeSyntax}
use Rattle.bmc_report.specs.declared.refusal.Refusal.TheVariants.{TemplateSyntax, MuxMatchOne, PatternSyntax, PatternTooLarge}
use Rattle.bmc_report.specs.declared.refusal.Refusal.TheVariants.{ConfigAfterPlug, DuplicateName, ConfigLimit, Occupied}
use Rattle.bmc_report.specs.declared.refusal.Refusal.TheVariants.{FruShort, FruTooLong, HeaderVersion, HeaderChecksum}
use Rattle.bmc_report.specs.declared.refusal.Refusal.TheVariants.{AreaOutside, AreaVersion, AreaLength, AreaChecksum, FieldOutside, NoEnd}
use Rattle.bmc_report.specs.declared.refusal.Refusal.TheVariants.{FruLimit, BoardLimit, SensorLimit, ZoneLimit, FanLimit}
use Rattle.bmc_report.specs.declared.refusal.Refusal.TheVariants.{PidLimit, StepLimit, NotPresent, UnknownSensor, ReadingRange}

-- the name of an area
unfoldable pub area_text : Area → List ℕ
area_text Chassis = codes "Chassis"
area_text Board = codes "Board"
area_text Product = codes "Product"

-- the name of a refusal
unfoldable pub refusal_name : Refusal → List ℕ
refusal_name LineTooLong = codes "LineTooLong"
refusal_name UnknownCommand = codes "UnknownCommand"
refusal_name BadArguments = codes "BadArguments"
refusal_name PlaceRange = codes "PlaceRange"
refusal_name TickLimit = codes "TickLimit"
refusal_name BadHex = codes "BadHex"
refusal_name ConfigTooLong = codes "ConfigTooLong"
refusal_name ConfigShort = codes "ConfigShort"
refusal_name NotJson = codes "NotJson"
refusal_name Fraction = codes "Fraction"
refusal_name MissingKey = codes "MissingKey"
refusal_name WrongKind = codes "WrongKind"
refusal_name OutOfRange = codes "OutOfRange"
refusal_name ProbeSyntax = codes "ProbeSyntax"
refusal_name TemplateSyntax = codes "TemplateSyntax"
refusal_name MuxMatchOne = codes "MuxMatchOne"
refusal_name PatternSyntax = codes "PatternSyntax"
refusal_name PatternTooLarge = codes "PatternTooLarge"
refusal_name ConfigAfterPlug = codes "ConfigAfterPlug"
refusal_name DuplicateName = codes "DuplicateName"
refusal_name ConfigLimit = codes "ConfigLimit"
refusal_name Occupied = codes "Occupied"
refusal_name FruShort = codes "FruShort"
refusal_name FruTooLong = codes "FruTooLong"
refusal_name HeaderVersion = codes "HeaderVersion"
refusal_name HeaderChecksum = codes "HeaderChecksum"
refusal_name (AreaOutside area) = codes "AreaOutside"
refusal_name (AreaVersion area) = codes "AreaVersion"
refusal_name (AreaLength area) = codes "AreaLength"
refusal_name (AreaChecksum area) = codes "AreaChecksum"
refusal_name (FieldOutside area) = codes "FieldOutside"
refusal_name (NoEnd area) = codes "NoEnd"
refusal_name FruLimit = codes "FruLimit"
refusal_name BoardLimit = codes "BoardLimit"
refusal_name SensorLimit = codes "SensorLimit"
refusal_name ZoneLimit = codes "ZoneLimit"
refusal_name FanLimit = codes "FanLimit"
refusal_name PidLimit = codes "PidLimit"
refusal_name StepLimit = codes "StepLimit"
refusal_name NotPresent = codes "NotPresent"
refusal_name UnknownSensor = codes "UnknownSensor"
refusal_name ReadingRange = codes "ReadingRange"

-- the area that breaks a rule, if the rule is one on areas
abbrev pub area_of : Refusal → Option Area
area_of (AreaOutside area) = Some area
area_of (AreaVersion area) = Some area
area_of (AreaLength area) = Some area
area_of (AreaChecksum area) = Some area
area_of (FieldOutside area) = Some area
area_of (NoEnd area) = Some area
area_of _ = None

-- the area is printed behind the name
abbrev pub area_ending : Option Area → List ℕ
area_ending None = []
area_ending (Some area) = codes " " ++ area_text area

-- what is printed of a refusal
unfoldable pub refusal_text : Refusal → List ℕ
refusal_text refusal = refusal_name refusal ++ area_ending (area_of refusal)

-- the word of a file or of a line
abbrev pub origin_text : Origin → List ℕ
origin_text File = codes "file "
origin_text Line = codes "line "

-- what is printed of a file or of a line, by its number, that is refused
abbrev pub refused_line : Origin → ℕ → Refusal → List ℕ
refused_line origin number refusal = origin_text origin ++ decimal number ++ codes " refused " ++ refusal_text refusal ++ codes "\n"
