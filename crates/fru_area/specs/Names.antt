-- The names of fields as text, after the fields of the FRU definition 1.0, sections 10 to 12.
use Rattle.std.specs.Prelude.{ℕ, ◌≤◌, ◌≡◌, List, [], ◌++◌, codes, decimal, ⊤}
use Rattle.fru_area.specs.declared.fault.Area.{Area}
use Rattle.fru_area.specs.declared.fault.Area.TheVariants.{Chassis, Board, Product}
use Rattle.fru_area.specs.declared.name.FieldName.{FieldName}
use Rattle.fru_area.specs.declared.name.FieldName.TheVariants.{ChassisType, ChassisPartNumber, ChassisSerialNumber, BoardManufactureDate}
use Rattle.fru_area.specs.declared.name.FieldName.TheVariants.{BoardManufacturer, BoardProductName, BoardSerialNumber, BoardPartNumber}
use Rattle.fru_area.specs.declared.name.FieldName.TheVariants.{BoardFruVersionId, ProductManufacturer, ProductProductName, ProductPartNumber}
use Rattle.fru_area.specs.declared.name.FieldName.TheVariants.{ProductVersion, ProductSerialNumber, ProductAssetTag, ProductFruVersionId, Custom}

-- what the name of a custom field of an area begins with
abbrev pub custom_prefix : Area → List ℕ
custom_prefix Chassis = codes "CHASSIS_INFO_AM"
custom_prefix Board = codes "BOARD_INFO_AM"
custom_prefix Product = codes "PRODUCT_INFO_AM"

-- the text of a name
unfoldable pub name_text : FieldName → List ℕ
name_text ChassisType = codes "CHASSIS_TYPE"
name_text ChassisPartNumber = codes "CHASSIS_PART_NUMBER"
name_text ChassisSerialNumber = codes "CHASSIS_SERIAL_NUMBER"
name_text BoardManufactureDate = codes "BOARD_MANUFACTURE_DATE"
name_text BoardManufacturer = codes "BOARD_MANUFACTURER"
name_text BoardProductName = codes "BOARD_PRODUCT_NAME"
name_text BoardSerialNumber = codes "BOARD_SERIAL_NUMBER"
name_text BoardPartNumber = codes "BOARD_PART_NUMBER"
name_text BoardFruVersionId = codes "BOARD_FRU_VERSION_ID"
name_text ProductManufacturer = codes "PRODUCT_MANUFACTURER"
name_text ProductProductName = codes "PRODUCT_PRODUCT_NAME"
name_text ProductPartNumber = codes "PRODUCT_PART_NUMBER"
name_text ProductVersion = codes "PRODUCT_VERSION"
name_text ProductSerialNumber = codes "PRODUCT_SERIAL_NUMBER"
name_text ProductAssetTag = codes "PRODUCT_ASSET_TAG"
name_text ProductFruVersionId = codes "PRODUCT_FRU_VERSION_ID"
name_text (Custom area number) = custom_prefix area ++ decimal number

-- the number in the name of a custom field
abbrev pub number_of : FieldName → ℕ
number_of (Custom area number) = number
number_of _ = 0

-- the highest number of a custom field: an area has no more bytes
abbrev pub last_custom : ℕ
last_custom = 2040

-- the names of fields: those without a number, and those of custom fields from 1 on
abbrev pub IsName : FieldName → Type 0
IsName (Custom area number) = (1 ≤ number) × (number ≤ last_custom)
IsName _ = ⊤

-- what the name of a custom field ends with
abbrev pub number_text : FieldName → List ℕ
number_text (Custom area number) = decimal number
number_text _ = []

-- a name without a number
abbrev pub IsFixed : FieldName → Type 0
IsFixed (Custom area number) = ⊥
IsFixed _ = ⊤

-- the text is not this prefix and the number of a custom field
abbrev pub LacksNumber : List ℕ → List ℕ → Type 0
LacksNumber prefix text = (number : ℕ) → 1 ≤ number → number ≤ last_custom → prefix ++ decimal number ≡ text → ⊥
