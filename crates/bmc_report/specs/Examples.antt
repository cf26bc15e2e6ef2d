-- What the computed examples print.
use Rattle.std.specs.Prelude.{ℕ, negsuc, Bool, List, [], ◌∷◌, ◌++◌, codes, replicate, false, true, Some, None}
use Rattle.bmc_base.specs.Places.{Place}
use Rattle.bmc_base.specs.declared.milli.Milli.{Milli}
use Rattle.fru_area.specs.declared.fault.Area.TheVariants as area
use Rattle.fru_area.specs.declared.field.Field.{Field}
use Rattle.fru_area.specs.declared.name.FieldName.TheVariants.{BoardPartNumber, Custom}
use Rattle.bmc_report.specs.declared.change.Change.{Change}
use Rattle.bmc_report.specs.declared.change.Change.TheVariants as change

-- the last bus, and the first address on it
abbrev pub last_bus : Place
last_bus = record { bus = 255; address = 0 }

-- a board that is always found, and one that was found by a FRU and is gone
abbrev pub new_chassis : Change
new_chassis = change.Board false (codes "Chassis") 1 None

abbrev pub gone_riser : Change
gone_riser = change.Board true (codes "Riser") 2 (Some (record { bus = 1; address = 80 }))

-- an alarm that went on
abbrev pub alarm_on : Change
alarm_on = change.Alarm true (codes "T") 0 true true

-- a twentieth below zero, and eight alarms of which the first and the last are on
abbrev pub below_zero : Milli
below_zero = record { 0 = negsuc 49 }

abbrev pub outer_alarms : List Bool
outer_alarms = true ∷ (replicate 6 false ++ true ∷ [])

-- what a text may hold beside plain bytes: a quote, a backslash, the control characters 00h and 1Fh, 7Fh, and
-- the character E9h in UTF-8
abbrev pub odd_text : List ℕ
odd_text = codes "a\"b\\" ++ 0 ∷ 31 ∷ 127 ∷ 195 ∷ 169 ∷ []

abbrev pub odd_quoted : List ℕ
odd_quoted = codes "\"a\\\"b\\\\\\x00\\x1f\\x7f" ++ 195 ∷ 169 ∷ codes "\""

-- a named field, and an empty custom one
abbrev pub odd_fields : List Field
odd_fields = record { name = BoardPartNumber; text = odd_text } ∷ record { name = Custom area.Board 12; text = [] } ∷ []
