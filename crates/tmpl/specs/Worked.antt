-- A place and a record for worked values.
use Rattle.std.specs.Prelude.{ℕ, List, [], ◌∷◌, codes, Option, Some, None}
use Rattle.bmc_base.specs.Places.{Place}
use Rattle.fru_area.specs.declared.field.Field.{Field}
use Rattle.fru_area.specs.declared.name.FieldName.TheVariants.{BoardProductName, BoardSerialNumber, BoardPartNumber}
use Rattle.tmpl.specs.Rendering.{rendered, rendered_number}

-- address 80 of bus 1
abbrev pub worked_place : Place
worked_place = record { bus = 1; address = 80 }

-- a board with the product name RSR1, the serial number 007, and a part number of ten digits
abbrev pub worked_fields : List Field
worked_fields =
    record { name = BoardProductName; text = codes "RSR1" }
    ∷ record { name = BoardSerialNumber; text = codes "007" }
    ∷ record { name = BoardPartNumber; text = codes "1234567890" }
    ∷ []

-- what a template is rendered as at that place under index 3, without a record and with that one
abbrev pub bare : List ℕ → Option (List ℕ)
bare text = rendered (Some worked_place) None 3 text

abbrev pub full : List ℕ → Option (List ℕ)
full text = rendered (Some worked_place) (Some worked_fields) 3 text

-- and as which number
abbrev pub full_number : List ℕ → ℕ → Option ℕ
full_number text max = rendered_number (Some worked_place) (Some worked_fields) 3 text max
