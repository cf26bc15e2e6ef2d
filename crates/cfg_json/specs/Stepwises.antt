-- The settings of stepwise controllers in a document.
use Rattle.std.specs.Prelude.{ℕ, ℤ, pos, List, [], ◌∷◌, ◌++◌, length, take, replicate, codes, Result, Ok}
use Rattle.bmc_base.specs.declared.milli.Milli.{Milli}
use Rattle.serde_json.specs.Data.{Data}
use Rattle.serde_json.specs.Find.{get}
use Rattle.ctl_face.specs.declared.setting.StepRow.{StepRow}
use Rattle.ctl_face.specs.declared.setting.StepSetting.{StepSetting}
use Rattle.cfg_json.specs.declared.config_fault.ConfigFault.{ConfigFault}
use Rattle.cfg_json.specs.Values.{◌>>=◌, required, list_within, each, milli_within, any_milli, no_units, member_or}

-- the most rows
abbrev pub most_rows : ℕ
most_rows = 20

-- the rows of these readings and these outputs, which are as many
abbrev pub rows_of : List Milli → List Milli → List StepRow
rows_of [] outputs = []
rows_of (reading ∷ readings) [] = []
rows_of (reading ∷ readings) (output ∷ outputs) = record { reading = reading; output = output } ∷ rows_of readings outputs

-- so many thousandths
abbrev pub in_milli : ℤ → Milli
in_milli z = record { 0 = z }

-- a row that is not in use
abbrev pub unused_row : StepRow
unused_row = record { reading = no_units; output = no_units }

-- the rows in twenty slots, of which the last ones may be unused
abbrev pub twenty_rows : List StepRow → List StepRow
twenty_rows rows = take most_rows (rows ++ replicate most_rows unused_row)

-- how far the reading may move with the same output
abbrev pub hysteresis_of : List ℕ → Data → Result Milli ConfigFault
hysteresis_of key members = member_or no_units (milli_within (pos 0) (pos 1000000)) (get key members)

-- the setting of a stepwise controller: the outputs are as many as the readings
abbrev pub stepwise_of : Data → Result StepSetting ConfigFault
stepwise_of members =
    required (get (codes "Reading") members) >>= list_within 1 most_rows >>= each any_milli >>= λ readings.
    required (get (codes "Output") members) >>= list_within (length readings) (length readings) >>= each any_milli >>= λ outputs.
    hysteresis_of (codes "PositiveHysteresis") members >>= λ positive.
    hysteresis_of (codes "NegativeHysteresis") members >>= λ negative.
    Ok (record { rows = twenty_rows (rows_of readings outputs); count = length readings; positive = positive; negative = negative })
