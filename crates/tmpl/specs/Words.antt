-- The words of substitutions, each of which names the bus, the address, the index or a field.
use Rattle.std.specs.Prelude.{ℕ, Bool, true, ◌==◌, ◌&&◌, ◌||◌, nat_le, if◌then◌else◌, List, [], ◌∷◌, ◌++◌, length, drop, fold, codes, bytes_eq, find}
use Rattle.std.specs.Prelude.{Option, Some, option_map}
use Rattle.fru_area.specs.Names.{name_text, custom_prefix, last_custom}
use Rattle.fru_area.specs.declared.fault.Area.{Area}
use Rattle.fru_area.specs.declared.fault.Area.TheVariants.{Chassis, Board, Product}
use Rattle.fru_area.specs.declared.name.FieldName.{FieldName}
use Rattle.fru_area.specs.declared.name.FieldName.TheVariants.{ChassisType, ChassisPartNumber, ChassisSerialNumber, BoardManufactureDate}
use Rattle.fru_area.specs.declared.name.FieldName.TheVariants.{BoardManufacturer, BoardProductName, BoardSerialNumber, BoardPartNumber}
use Rattle.fru_area.specs.declared.name.FieldName.TheVariants.{BoardFruVersionId, ProductManufacturer, ProductProductName, ProductPartNumber}
use Rattle.fru_area.specs.declared.name.FieldName.TheVariants.{ProductVersion, ProductSerialNumber, ProductAssetTag, ProductFruVersionId, Custom}
use Rattle.tmpl.specs.Operations.{is_digit, with_digit}
use Rattle.tmpl.specs.declared.word.Word.{Word}
use Rattle.tmpl.specs.declared.word.Word.TheVariants.{Bus, Address, Index, Field}

abbrev pub is_letter : ℕ → Bool
is_letter byte = nat_le 65 byte && nat_le byte 90 || nat_le 97 byte && nat_le byte 122

-- a word is of letters, digits and `_` (95), and does not begin with a digit
abbrev pub starts_word : ℕ → Bool
starts_word byte = is_letter byte || byte == 95

abbrev pub is_word_byte : ℕ → Bool
is_word_byte byte = starts_word byte || is_digit byte

-- the names of fields without a number
abbrev pub fixed_names : List FieldName
fixed_names =
    ChassisType ∷ ChassisPartNumber ∷ ChassisSerialNumber ∷ BoardManufactureDate ∷ BoardManufacturer ∷ BoardProductName ∷ BoardSerialNumber
    ∷ BoardPartNumber ∷ BoardFruVersionId ∷ ProductManufacturer ∷ ProductProductName ∷ ProductPartNumber ∷ ProductVersion ∷ ProductSerialNumber
    ∷ ProductAssetTag ∷ ProductFruVersionId ∷ []

-- the custom field of an area, with the number that stands in a text behind what its name begins with
abbrev pub custom_in : List ℕ → Area → FieldName
custom_in text area = Custom area (fold with_digit 0 (drop (length (custom_prefix area)) text))

-- the custom fields of an area have numbers from 1 to 2,040
abbrev pub is_name : FieldName → Bool
is_name (Custom area number) = nat_le 1 number && nat_le number last_custom
is_name _ = true

-- the field of this name, or none
unfoldable pub field_of : List ℕ → Option FieldName
field_of text =
    find (λ name. is_name name && bytes_eq (name_text name) text)
    (fixed_names ++ custom_in text Chassis ∷ custom_in text Board ∷ custom_in text Product ∷ [])

-- what a word names, or none where it is unknown
unfoldable pub word_of : List ℕ → Option Word
word_of text =
    if bytes_eq text (codes "bus") || bytes_eq text (codes "BUS") then Some Bus
    else if bytes_eq text (codes "address") || bytes_eq text (codes "ADDRESS") then Some Address
    else if bytes_eq text (codes "index") then Some Index
    else option_map Field (field_of text)
