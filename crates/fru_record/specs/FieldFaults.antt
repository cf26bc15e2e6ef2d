-- When the fields of an area of a record break a rule.
use Rattle.std.specs.Prelude.{ℕ, ◌≢◌, ◌*◌, ⊤, List}
use Rattle.fru_area.specs.Headers.{unit}
use Rattle.fru_area.specs.declared.fault.Area.{Area}
use Rattle.fru_area.specs.declared.fault.Area.TheVariants.{Chassis, Board, Product}
use Rattle.fru_area.specs.declared.field.Field.{Field}
use Rattle.fru_record.specs.Records.{fields_start}
use Rattle.fru_record.specs.Spellings.{HasHeader, HasArea, SpellsPart, area_from, offset_in}

-- an area is absent, or spells fields
abbrev pub IsSpelled : Area → List ℕ → Type 0
IsSpelled area bytes = (fields : List Field) × SpellsPart area bytes (offset_in area bytes) fields

-- the areas before this one are absent, or spell fields
abbrev pub EarlierSpelled : Area → List ℕ → Type 0
EarlierSpelled Chassis bytes = ⊤
EarlierSpelled Board bytes = IsSpelled Chassis bytes
EarlierSpelled Product bytes = IsSpelled Chassis bytes × IsSpelled Board bytes

-- The bytes begin with a header, the areas before this one are absent or spell fields, and this area stands where the
-- header says and breaks a rule of its fields, said of its bytes and of the position of its first field.
pub record BreaksFields (rule : List ℕ → ℕ → Type 0) (area : Area) (bytes : List ℕ) : Type 0 where
  pub header : HasHeader bytes
  pub earlier : EarlierSpelled area bytes
  pub there : offset_in area bytes ≢ 0
  pub placed : HasArea bytes (unit * offset_in area bytes)
  pub broken : rule (area_from bytes (unit * offset_in area bytes)) (fields_start area)
