-- The names of each area in the order of the record, and their texts.
use Rattle.std.specs.Prelude.{ℕ, List, [], ◌∷◌, codes}
use Rattle.fru_area.specs.declared.fault.Area.TheVariants.{Chassis, Board, Product}
use Rattle.fru_area.specs.declared.field.Field.{Field}
use Rattle.fru_area.specs.declared.name.FieldName.{FieldName}
use Rattle.fru_area.specs.declared.name.FieldName.TheVariants as names

abbrev pub chassis_names : List FieldName
chassis_names =
    names.ChassisType
    ∷ names.ChassisPartNumber
    ∷ names.ChassisSerialNumber
    ∷ names.Custom Chassis 1
    ∷ names.Custom Chassis 2
    ∷ []

abbrev pub chassis_texts : List (List ℕ)
chassis_texts =
    codes "CHASSIS_TYPE"
    ∷ codes "CHASSIS_PART_NUMBER"
    ∷ codes "CHASSIS_SERIAL_NUMBER"
    ∷ codes "CHASSIS_INFO_AM1"
    ∷ codes "CHASSIS_INFO_AM2"
    ∷ []

abbrev pub board_names : List FieldName
board_names =
    names.BoardManufactureDate
    ∷ names.BoardManufacturer
    ∷ names.BoardProductName
    ∷ names.BoardSerialNumber
    ∷ names.BoardPartNumber
    ∷ names.BoardFruVersionId
    ∷ names.Custom Board 1
    ∷ names.Custom Board 10
    ∷ []

abbrev pub board_texts : List (List ℕ)
board_texts =
    codes "BOARD_MANUFACTURE_DATE"
    ∷ codes "BOARD_MANUFACTURER"
    ∷ codes "BOARD_PRODUCT_NAME"
    ∷ codes "BOARD_SERIAL_NUMBER"
    ∷ codes "BOARD_PART_NUMBER"
    ∷ codes "BOARD_FRU_VERSION_ID"
    ∷ codes "BOARD_INFO_AM1"
    ∷ codes "BOARD_INFO_AM10"
    ∷ []

abbrev pub product_names : List FieldName
product_names =
    names.ProductManufacturer
    ∷ names.ProductProductName
    ∷ names.ProductPartNumber
    ∷ names.ProductVersion
    ∷ names.ProductSerialNumber
    ∷ names.ProductAssetTag
    ∷ names.ProductFruVersionId
    ∷ names.Custom Product 1
    ∷ names.Custom Product 2040
    ∷ []

abbrev pub product_texts : List (List ℕ)
product_texts =
    codes "PRODUCT_MANUFACTURER"
    ∷ codes "PRODUCT_PRODUCT_NAME"
    ∷ codes "PRODUCT_PART_NUMBER"
    ∷ codes "PRODUCT_VERSION"
    ∷ codes "PRODUCT_SERIAL_NUMBER"
    ∷ codes "PRODUCT_ASSET_TAG"
    ∷ codes "PRODUCT_FRU_VERSION_ID"
    ∷ codes "PRODUCT_INFO_AM1"
    ∷ codes "PRODUCT_INFO_AM2040"
    ∷ []

-- a chassis area of four fields, two of them empty, with two bytes behind its end mark
abbrev pub chassis_area : List ℕ
chassis_area =
    0x01 ∷ 0x02 ∷ 0x17 ∷ 0xC2 ∷ 0x50 ∷ 0x31 ∷ 0xC0 ∷ 0x43
    ∷ 0xAB ∷ 0xCD ∷ 0xEF ∷ 0xC0 ∷ 0xC1 ∷ 0x00 ∷ 0x00 ∷ 0xB8 ∷ []

abbrev pub field : FieldName → List ℕ → Field
field name text = record { name = name; text = text }

-- its fields: two are named and two are custom
abbrev pub chassis_fields : List Field
chassis_fields =
    field names.ChassisPartNumber (codes "P1")
    ∷ field names.ChassisSerialNumber []
    ∷ field (names.Custom Chassis 1) (codes " -.:,_")
    ∷ field (names.Custom Chassis 2) []
    ∷ []
