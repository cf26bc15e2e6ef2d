-- Records, byte by byte, and their fields.
use Rattle.std.specs.Prelude.{ℕ, List, [], ◌∷◌, codes}
use Rattle.fru_area.specs.declared.fault.Area.TheVariants.{Chassis, Board}
use Rattle.fru_area.specs.declared.name.FieldName.{FieldName}
use Rattle.fru_area.specs.declared.name.FieldName.TheVariants as names
use Rattle.fru_area.specs.declared.field.Field.{Field}

abbrev pub field : FieldName → List ℕ → Field
field name text = record { name = name; text = text }

-- a header, and a board area without a date
abbrev pub board_bytes : List ℕ
board_bytes =
    0x01 ∷ 0x00 ∷ 0x00 ∷ 0x01 ∷ 0x00 ∷ 0x00 ∷ 0x00 ∷ 0xFE
    ∷ 0x01 ∷ 0x03 ∷ 0x00 ∷ 0x00 ∷ 0x00 ∷ 0x00 ∷ 0xC3 ∷ 0x41
    ∷ 0x43 ∷ 0x4D ∷ 0xC4 ∷ 0x52 ∷ 0x53 ∷ 0x52 ∷ 0x31 ∷ 0xC2
    ∷ 0x53 ∷ 0x31 ∷ 0xC0 ∷ 0xC0 ∷ 0xC1 ∷ 0x00 ∷ 0x00 ∷ 0xF5 ∷ []

abbrev pub board_fields : List Field
board_fields =
    field names.BoardManufacturer (codes "ACM")
    ∷ field names.BoardProductName (codes "RSR1")
    ∷ field names.BoardSerialNumber (codes "S1")
    ∷ field names.BoardPartNumber []
    ∷ field names.BoardFruVersionId []
    ∷ []

-- a board area with a date, and fields in 6-bit ASCII, BCD plus and Latin 1
abbrev pub dated_bytes : List ℕ
dated_bytes =
    0x01 ∷ 0x00 ∷ 0x00 ∷ 0x01 ∷ 0x00 ∷ 0x00 ∷ 0x00 ∷ 0xFE
    ∷ 0x01 ∷ 0x03 ∷ 0x00 ∷ 0x20 ∷ 0x05 ∷ 0x08 ∷ 0x83 ∷ 0x29
    ∷ 0xDC ∷ 0xA6 ∷ 0x43 ∷ 0xAB ∷ 0xCD ∷ 0xEF ∷ 0xC0 ∷ 0xC0
    ∷ 0xC0 ∷ 0xC1 ∷ 0x00 ∷ 0x00 ∷ 0x00 ∷ 0x00 ∷ 0x00 ∷ 0xF6 ∷ []

abbrev pub dated_fields : List Field
dated_fields =
    field names.BoardManufactureDate (codes "1996-12-31 00:00")
    ∷ field names.BoardManufacturer (codes "IPMI")
    ∷ field names.BoardProductName (codes " -.:,_")
    ∷ field names.BoardSerialNumber []
    ∷ field names.BoardPartNumber []
    ∷ field names.BoardFruVersionId []
    ∷ []

-- all three areas: a chassis and a board with a custom field, and texts of one character
abbrev pub whole_bytes : List ℕ
whole_bytes =
    0x01 ∷ 0x00 ∷ 0x01 ∷ 0x03 ∷ 0x06 ∷ 0x00 ∷ 0x00 ∷ 0xF5
    ∷ 0x01 ∷ 0x02 ∷ 0x17 ∷ 0xC2 ∷ 0x50 ∷ 0x31 ∷ 0xC2 ∷ 0x53
    ∷ 0x32 ∷ 0xC2 ∷ 0x58 ∷ 0x31 ∷ 0xC1 ∷ 0x00 ∷ 0x00 ∷ 0x50
    ∷ 0x01 ∷ 0x03 ∷ 0x00 ∷ 0x01 ∷ 0x00 ∷ 0x01 ∷ 0xC3 ∷ 0x41
    ∷ 0x43 ∷ 0x4D ∷ 0xC4 ∷ 0x52 ∷ 0x53 ∷ 0x52 ∷ 0x31 ∷ 0xC2
    ∷ 0x53 ∷ 0x31 ∷ 0xC0 ∷ 0xC0 ∷ 0x81 ∷ 0x3A ∷ 0xC1 ∷ 0x38
    ∷ 0x01 ∷ 0x02 ∷ 0x00 ∷ 0xC2 ∷ 0x6E ∷ 0xE9 ∷ 0xC0 ∷ 0xC0
    ∷ 0xC0 ∷ 0xC0 ∷ 0x81 ∷ 0x21 ∷ 0x81 ∷ 0x00 ∷ 0xC1 ∷ 0x00 ∷ []

abbrev pub whole_fields : List Field
whole_fields =
    field names.ChassisType (codes "23")
    ∷ field names.ChassisPartNumber (codes "P1")
    ∷ field names.ChassisSerialNumber (codes "S2")
    ∷ field (names.Custom Chassis 1) (codes "X1")
    ∷ field names.BoardManufactureDate (codes "1996-02-15 12:17")
    ∷ field names.BoardManufacturer (codes "ACM")
    ∷ field names.BoardProductName (codes "RSR1")
    ∷ field names.BoardSerialNumber (codes "S1")
    ∷ field names.BoardPartNumber []
    ∷ field names.BoardFruVersionId []
    ∷ field (names.Custom Board 1) (codes "Z")
    ∷ field names.ProductManufacturer (0x6E ∷ 0xC3 ∷ 0xA9 ∷ [])
    ∷ field names.ProductProductName []
    ∷ field names.ProductPartNumber []
    ∷ field names.ProductVersion []
    ∷ field names.ProductSerialNumber []
    ∷ field names.ProductAssetTag (codes "A")
    ∷ field names.ProductFruVersionId (codes " ")
    ∷ []

-- a board area behind its header
abbrev pub board_record : List ℕ → List ℕ
board_record area = 0x01 ∷ 0x00 ∷ 0x00 ∷ 0x01 ∷ 0x00 ∷ 0x00 ∷ 0x00 ∷ 0xFE ∷ area

-- a chassis area with a field that reaches its checksum, and no bytes where the board area would begin
abbrev pub two_faults : List ℕ
two_faults =
    0x01 ∷ 0x00 ∷ 0x01 ∷ 0x02 ∷ 0x00 ∷ 0x00 ∷ 0x00 ∷ 0xFC
    ∷ 0x01 ∷ 0x01 ∷ 0x17 ∷ 0xC4 ∷ 0xC0 ∷ 0xC0 ∷ 0xC1 ∷ 0xE2 ∷ []
