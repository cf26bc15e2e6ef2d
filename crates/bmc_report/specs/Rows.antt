-- The rows of the list of FRUs.
use Rattle.std.specs.Prelude.{ℕ, List, ◌++◌, codes}
use Rattle.std.specs.List.{flat_map}
use Rattle.bmc_base.specs.Places.{Place}
use Rattle.fru_area.specs.Names.{name_text}
use Rattle.fru_area.specs.declared.field.Field.{Field}
use Rattle.bmc_report.specs.Places.{place_text}
use Rattle.bmc_report.specs.Quoted.{quoted}

-- a field in the row of its FRU
unfoldable pub field_row : Field → List ℕ
field_row field = codes " " ++ name_text field.name ++ codes "=" ++ quoted field.text

-- the row of a FRU: its place, and its fields in the order of the record
unfoldable pub fru_row : Place → List Field → List ℕ
fru_row place fields = codes "fru " ++ place_text place ++ flat_map field_row fields ++ codes "\n"
