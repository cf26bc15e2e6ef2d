-- A whole FRU record (FRU definition 1.0, sections 8 and 10 to 13): its fields, or the first broken rule.
use Rattle.std.specs.Prelude.{ℕ, ◌*◌, Bool, true, ◌==◌, if◌then◌else◌, List, [], ◌∷◌, ◌++◌, decimal, slice_index, Result, Ok, Err}
use Rattle.fru_area.specs.Headers.{unit, header, area_at}
use Rattle.fru_area.specs.Areas.{area_fields}
use Rattle.fru_area.specs.Texts.{is_english_language}
use Rattle.fru_area.specs.declared.fault.Area.{Area}
use Rattle.fru_area.specs.declared.fault.Area.TheVariants.{Chassis, Board, Product}
use Rattle.fru_area.specs.declared.fault.FruFault.{FruFault}
use Rattle.fru_area.specs.declared.header.Header.{Header}
use Rattle.fru_area.specs.declared.name.FieldName.{FieldName}
use Rattle.fru_area.specs.declared.name.FieldName.TheVariants.{ChassisType, ChassisPartNumber, ChassisSerialNumber, BoardManufactureDate}
use Rattle.fru_area.specs.declared.name.FieldName.TheVariants.{BoardManufacturer, BoardProductName, BoardSerialNumber, BoardPartNumber}
use Rattle.fru_area.specs.declared.name.FieldName.TheVariants.{BoardFruVersionId, ProductManufacturer, ProductProductName, ProductPartNumber}
use Rattle.fru_area.specs.declared.name.FieldName.TheVariants.{ProductVersion, ProductSerialNumber, ProductAssetTag, ProductFruVersionId}
use Rattle.fru_area.specs.declared.field.Field.{Field}
use Rattle.fru_record.specs.Dates.{minutes_of, date_text}

-- the named fields of an area, in their order
abbrev pub names_of : Area → List FieldName
names_of Chassis = ChassisPartNumber ∷ ChassisSerialNumber ∷ []
names_of Board = BoardManufacturer ∷ BoardProductName ∷ BoardSerialNumber ∷ BoardPartNumber ∷ BoardFruVersionId ∷ []
names_of Product =
    ProductManufacturer ∷ ProductProductName ∷ ProductPartNumber ∷ ProductVersion ∷ ProductSerialNumber ∷ ProductAssetTag ∷ ProductFruVersionId ∷ []

-- where the fields of an area start
abbrev pub fields_start : Area → ℕ
fields_start Chassis = 3
fields_start Board = 6
fields_start Product = 3

-- whether the text of an area counts as English: by its language, and always in the chassis area, which has none
abbrev pub is_english : Area → List ℕ → Bool
is_english Chassis area = true
is_english Board area = is_english_language (slice_index area 2)
is_english Product area = is_english_language (slice_index area 2)

-- the fields that stand at a fixed place: the chassis type, and the date of the board where there is one
abbrev pub fixed_fields : Area → List ℕ → List Field
fixed_fields Chassis area = record { name = ChassisType; text = decimal (slice_index area 2) } ∷ []
fixed_fields Board area = if minutes_of area == 0 then [] else record { name = BoardManufactureDate; text = date_text (minutes_of area) } ∷ []
fixed_fields Product area = []

-- the ? of a result
infixl 10 ◌>>=◌
abbrev pub ◌>>=◌ : {A B : Type 0} → Result A FruFault → (A → Result B FruFault) → Result B FruFault
(Ok x) >>= f = f x
(Err fault) >>= f = Err fault

-- the fields of a whole area
unfoldable pub fields_of_area : Area → List ℕ → Result (List Field) FruFault
fields_of_area area bytes = do
  fields ← area_fields area (is_english area bytes) (names_of area) bytes (fields_start area)
  Ok (fixed_fields area bytes ++ fields)

-- the fields of the area that begins at this offset, in units; at 0 it is absent
unfoldable pub fields_at : Area → List ℕ → ℕ → Result (List Field) FruFault
fields_at area bytes offset = if offset == 0 then Ok [] else area_at area bytes (unit * offset) >>= fields_of_area area

-- the fields of the areas under a header
unfoldable pub fields_under : List ℕ → Header → Result (List Field) FruFault
fields_under bytes at = do
  chassis ← fields_at Chassis bytes at.chassis
  board ← fields_at Board bytes at.board
  product ← fields_at Product bytes at.product
  Ok (chassis ++ board ++ product)

-- the fields of a record, or its first broken rule
unfoldable pub record_of : List ℕ → Result (List Field) FruFault
record_of bytes = header bytes >>= fields_under bytes
