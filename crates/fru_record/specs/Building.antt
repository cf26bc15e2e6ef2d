-- The bytes of a record that is built of parts, or why it can't be (FRU definition 1.0, sections 8 and 10 to 13).
use Rattle.std.specs.Prelude.{ℕ, ◌≡◌, ◌+◌, ◌*◌, ◌-◌, ◌/◌, ◌%◌, ⊤, Bool, false, ◌||◌, nat_lt, nat_le, if◌then◌else◌, List, [], ◌∷◌, ◌++◌}
use Rattle.std.specs.Prelude.{length, chars, sum, replicate, Option, Some, None, Result, Ok, Err}
use Rattle.std.specs.List.{list_any, flat_map}
use Rattle.fru_area.specs.Headers.{format_version, unit, longest_record}
use Rattle.fru_area.specs.Walks.{end_mark, longest_field}
use Rattle.fru_record.specs.Dates.{minutes_limit}
use Rattle.fru_record.specs.Parts.{texts_of}
use Rattle.fru_record.specs.declared.parts.Parts.{Parts}
use Rattle.fru_record.specs.declared.parts.ChassisPart.{ChassisPart}
use Rattle.fru_record.specs.declared.parts.BoardPart.{BoardPart}
use Rattle.fru_record.specs.declared.parts.ProductPart.{ProductPart}
use Rattle.fru_record.specs.declared.builder.BuildFault.{BuildFault}
use Rattle.fru_record.specs.declared.builder.BuildFault.TheVariants.{DateRange, TextNotLatin, TextTooLong, OneByte, AreaTooLong, RecordTooLong, OutOfMemory}

-- the last character of Latin 1
abbrev pub last_latin : ℕ
last_latin = 0xFF

-- the first and the last character of 6-bit ASCII
abbrev pub first_six_bit : ℕ
first_six_bit = 0x20

abbrev pub last_six_bit : ℕ
last_six_bit = 0x5F

-- the most units that the length of an area, or an offset, counts
abbrev pub most_units : ℕ
most_units = 255

-- the byte that brings the sum of bytes to zero
abbrev pub closing_byte : List ℕ → ℕ
closing_byte bytes = (256 - sum bytes % 256) % 256

-- A text as a field: C0h where it is empty; a single character as 6-bit ASCII, since a text of type 3 and length 1
-- would be the end mark; else Latin 1.
abbrev pub field_of_chars : List ℕ → List ℕ
field_of_chars [] = 0xC0 ∷ []
field_of_chars (char ∷ []) = 0x81 ∷ (char - first_six_bit) ∷ []
field_of_chars (first ∷ second ∷ others) = (0xC0 + length (first ∷ second ∷ others)) ∷ first ∷ second ∷ others

abbrev pub field_of_text : List ℕ → List ℕ
field_of_text text = field_of_chars (chars text)

-- what an area holds behind its version and length: what stands at fixed places, the fields, and the end mark
abbrev pub area_body : List ℕ → List (List ℕ) → List ℕ
area_body fixed texts = fixed ++ flat_map field_of_text texts ++ end_mark ∷ []

-- the length of an area, in units: version, length, body and checksum, filled up
abbrev pub area_units : List ℕ → ℕ
area_units body = (length body + 3 + (unit - 1)) / unit

-- the area without its checksum: filled up with zeros
abbrev pub area_front : List ℕ → List ℕ
area_front body = format_version ∷ area_units body ∷ (body ++ replicate (unit * area_units body - length body - 3) 0)

abbrev pub area_bytes : List ℕ → List ℕ
area_bytes body = area_front body ++ closing_byte (area_front body) ∷ []

abbrev pub chassis_body : Option ChassisPart → Option (List ℕ)
chassis_body None = None
chassis_body (Some part) = Some (area_body (part.chassis_type ∷ []) (part.named ++ part.custom))

abbrev pub board_body : Option BoardPart → Option (List ℕ)
board_body None = None
board_body (Some part) =
    Some (area_body (0 ∷ part.minutes % 256 ∷ part.minutes / 256 % 256 ∷ part.minutes / 65536 % 256 ∷ []) (part.named ++ part.custom))

abbrev pub product_body : Option ProductPart → Option (List ℕ)
product_body None = None
product_body (Some part) = Some (area_body (0 ∷ []) (part.named ++ part.custom))

-- how many units an area takes, and its bytes
abbrev pub units_of : Option (List ℕ) → ℕ
units_of None = 0
units_of (Some body) = area_units body

abbrev pub bytes_of : Option (List ℕ) → List ℕ
bytes_of None = []
bytes_of (Some body) = area_bytes body

-- the offset of an area behind so many units, or 0 where there is none
abbrev pub offset_of : ℕ → Option (List ℕ) → ℕ
offset_of before None = 0
offset_of before (Some body) = before

-- the header over these areas
abbrev pub header_front : Option (List ℕ) → Option (List ℕ) → Option (List ℕ) → List ℕ
header_front chassis board product =
    format_version ∷ 0 ∷ offset_of 1 chassis ∷ offset_of (1 + units_of chassis) board ∷ offset_of (1 + units_of chassis + units_of board) product ∷ 0 ∷ 0 ∷ []

abbrev pub record_bytes_of : Option (List ℕ) → Option (List ℕ) → Option (List ℕ) → List ℕ
record_bytes_of chassis board product =
    header_front chassis board product ++ closing_byte (header_front chassis board product) ∷ []
    ++ bytes_of chassis ++ bytes_of board ++ bytes_of product

-- the bytes of a record of these parts: header, chassis, board, product
unfoldable pub record_bytes : Parts → List ℕ
record_bytes parts = record_bytes_of (chassis_body parts.chassis) (board_body parts.board) (product_body parts.product)

-- a date has 24 bits
abbrev pub has_late_date : Option BoardPart → Bool
has_late_date None = false
has_late_date (Some part) = nat_le minutes_limit part.minutes

abbrev pub is_not_latin : List ℕ → Bool
is_not_latin text = list_any (λ char. nat_lt last_latin char) (chars text)

abbrev pub is_too_long : List ℕ → Bool
is_too_long text = nat_lt longest_field (length (chars text))

-- a single character that 6-bit ASCII does not have
abbrev pub is_bad_single : List ℕ → Bool
is_bad_single (char ∷ []) = nat_lt char first_six_bit || nat_lt last_six_bit char
is_bad_single [] = false
is_bad_single (first ∷ second ∷ others) = false

abbrev pub is_long_area : Option (List ℕ) → Bool
is_long_area body = nat_lt most_units (units_of body)

-- an area would begin where no offset names it, or the record has too many bytes
abbrev pub is_long_record : Option (List ℕ) → Option (List ℕ) → Option (List ℕ) → Bool
is_long_record chassis board product =
    nat_lt most_units (offset_of (1 + units_of chassis) board) || nat_lt most_units (offset_of (1 + units_of chassis + units_of board) product)
    || nat_lt longest_record (unit * (1 + units_of chassis + units_of board + units_of product))

-- why a record can't be built of these parts, rule by rule, or none
unfoldable pub build_fault : Parts → Option BuildFault
build_fault parts =
    if has_late_date parts.board then Some DateRange
    else if list_any is_not_latin (texts_of parts) then Some TextNotLatin
    else if list_any is_too_long (texts_of parts) then Some TextTooLong
    else if list_any (λ text. is_bad_single (chars text)) (texts_of parts) then Some OneByte
    else if is_long_area (chassis_body parts.chassis) || is_long_area (board_body parts.board) || is_long_area (product_body parts.product)
    then Some AreaTooLong
    else if is_long_record (chassis_body parts.chassis) (board_body parts.board) (product_body parts.product) then Some RecordTooLong
    else None

-- the bytes are built, or this is why not
pub record Builds (parts : Parts) (bytes : List ℕ) : Type 0 where
  pub allowed : build_fault parts ≡ None
  pub built : bytes ≡ record_bytes parts

abbrev pub GivesBytes : Result (List ℕ) BuildFault → Parts → Type 0
GivesBytes (Ok bytes) parts = Builds parts bytes
GivesBytes (Err OutOfMemory) parts = ⊤
GivesBytes (Err fault) parts = build_fault parts ≡ Some fault
