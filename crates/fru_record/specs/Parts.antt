-- The parts that a record is built of.
use Rattle.std.specs.Prelude.{ℕ, ◌≡◌, ◌+◌, ◌==◌, if◌then◌else◌, List, [], ◌∷◌, ◌++◌, length, decimal, Option, Some, None}
use Rattle.std.specs.Option.{IfSome}
use Rattle.fru_area.specs.declared.fault.Area.{Area}
use Rattle.fru_area.specs.declared.fault.Area.TheVariants.{Chassis, Board, Product}
use Rattle.fru_area.specs.declared.name.FieldName.{FieldName}
use Rattle.fru_area.specs.declared.name.FieldName.TheVariants.{ChassisType, BoardManufactureDate, Custom}
use Rattle.fru_area.specs.declared.field.Field.{Field}
use Rattle.fru_record.specs.Dates.{date_text}
use Rattle.fru_record.specs.Records.{names_of}
use Rattle.fru_record.specs.declared.parts.Parts.{Parts}
use Rattle.fru_record.specs.declared.parts.ChassisPart.{ChassisPart}
use Rattle.fru_record.specs.declared.parts.BoardPart.{BoardPart}
use Rattle.fru_record.specs.declared.parts.ProductPart.{ProductPart}

-- the named texts are as many as the area's named fields
pub record HasNames (parts : Parts) : Type 0 where
  pub chassis : IfSome parts.chassis (λ part. length part.named ≡ 2)
  pub board : IfSome parts.board (λ part. length part.named ≡ 5)
  pub product : IfSome parts.product (λ part. length part.named ≡ 7)

-- texts under their names: the first get the area's names, further ones are custom fields from this number on
abbrev pub text_fields : Area → List FieldName → ℕ → List (List ℕ) → List Field
text_fields area names number [] = []
text_fields area (name ∷ names) number (text ∷ texts) = record { name = name; text = text } ∷ text_fields area names number texts
text_fields area [] number (text ∷ texts) = record { name = Custom area number; text = text } ∷ text_fields area [] (number + 1) texts

abbrev pub chassis_fields : Option ChassisPart → List Field
chassis_fields None = []
chassis_fields (Some part) =
    record { name = ChassisType; text = decimal part.chassis_type } ∷ text_fields Chassis (names_of Chassis) 1 (part.named ++ part.custom)

abbrev pub board_fields : Option BoardPart → List Field
board_fields None = []
board_fields (Some part) =
    (if part.minutes == 0 then [] else record { name = BoardManufactureDate; text = date_text part.minutes } ∷ []) ++ text_fields Board
    (names_of Board) 1 (part.named ++ part.custom)

abbrev pub product_fields : Option ProductPart → List Field
product_fields None = []
product_fields (Some part) = text_fields Product (names_of Product) 1 (part.named ++ part.custom)

-- the fields of a record of these parts
abbrev pub fields_of_parts : Parts → List Field
fields_of_parts parts = chassis_fields parts.chassis ++ board_fields parts.board ++ product_fields parts.product

abbrev pub chassis_texts : Option ChassisPart → List (List ℕ)
chassis_texts None = []
chassis_texts (Some part) = part.named ++ part.custom

abbrev pub board_texts : Option BoardPart → List (List ℕ)
board_texts None = []
board_texts (Some part) = part.named ++ part.custom

abbrev pub product_texts : Option ProductPart → List (List ℕ)
product_texts None = []
product_texts (Some part) = part.named ++ part.custom

-- all texts, in their order
abbrev pub texts_of : Parts → List (List ℕ)
texts_of parts = chassis_texts parts.chassis ++ board_texts parts.board ++ product_texts parts.product
