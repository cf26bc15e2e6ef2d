-- What bytes spell, as a relation of positions: the law of the record above it says that `record_of` reads it.
use Rattle.std.specs.Prelude.{ℕ, ◌≡◌, ◌≢◌, ◌≤◌, ◌+◌, ◌*◌, List, [], ◌++◌, length, take, slice_index, slice_range}
use Rattle.fru_area.specs.Headers.{format_version, header_len, longest_record, unit, checksum, area_end}
use Rattle.fru_area.specs.Walks.{Raw, Spells, field_bytes}
use Rattle.fru_area.specs.Areas.{named}
use Rattle.fru_area.specs.declared.fault.Area.{Area}
use Rattle.fru_area.specs.declared.fault.Area.TheVariants.{Chassis, Board, Product}
use Rattle.fru_area.specs.declared.field.Field.{Field}
use Rattle.fru_record.specs.Records.{names_of, fields_start, is_english, fixed_fields}

-- the bytes of the area that begins at a byte
abbrev pub area_from : List ℕ → ℕ → List ℕ
area_from bytes start = slice_range bytes start (area_end bytes start)

-- the bytes begin with a header, and are neither too few nor too many
pub record HasHeader (bytes : List ℕ) : Type 0 where
  pub least : header_len ≤ length bytes
  pub limit : length bytes ≤ longest_record
  pub version : slice_index bytes 0 ≡ format_version
  pub sum : checksum (take header_len bytes) ≡ 0

-- the area that begins at a byte lies inside the bytes, has version 1, a length that is not 0 and a zero sum
pub record HasArea (bytes : List ℕ) (start : ℕ) : Type 0 where
  pub head : start + unit ≤ length bytes
  pub inside : area_end bytes start ≤ length bytes
  pub version : slice_index bytes start ≡ format_version
  pub size : slice_index bytes (start + 1) ≢ 0
  pub sum : checksum (area_from bytes start) ≡ 0

-- an area stands at this byte, and its bytes up to the checksum spell these fields
pub record SpellsArea (area : Area) (bytes : List ℕ) (start : ℕ) (fields : List Field) : Type 0 where
  pub placed : HasArea bytes start
  pub raws : List Raw
  pub spelled : Spells (field_bytes (area_from bytes start) (fields_start area)) raws
  pub named_so :
      fields ≡ fixed_fields area (area_from bytes start)
      ++ named area (is_english area (area_from bytes start)) (names_of area) 1 raws

-- an area is absent, or stands at this offset, in units
pub data SpellsPart (area : Area) (bytes : List ℕ) : ℕ → List Field → Type 0 where
  absent : SpellsPart area bytes 0 []
  present : (offset : ℕ) (fields : List Field) → offset ≢ 0 → SpellsArea area bytes (unit * offset) fields → SpellsPart area bytes offset fields

-- the offset of an area, in units, as the header has it
abbrev pub offset_in : Area → List ℕ → ℕ
offset_in Chassis bytes = slice_index bytes 2
offset_in Board bytes = slice_index bytes 3
offset_in Product bytes = slice_index bytes 4

-- the bytes spell this record: a header, and the fields of the areas that it names, chassis, board and product in turn
pub record SpellsRecord (bytes : List ℕ) (fields : List Field) : Type 0 where
  pub header : HasHeader bytes
  pub chassis : List Field
  pub board : List Field
  pub product : List Field
  pub chassis_part : SpellsPart Chassis bytes (offset_in Chassis bytes) chassis
  pub board_part : SpellsPart Board bytes (offset_in Board bytes) board
  pub product_part : SpellsPart Product bytes (offset_in Product bytes) product
  pub joined : fields ≡ chassis ++ board ++ product
