-- The named fields of an information area.
use Rattle.std.specs.Prelude.{ℕ, ◌+◌, Bool, List, [], ◌∷◌, Result, Ok, Err}
use Rattle.fru_area.specs.Walks.{Raw, raw_fields}
use Rattle.fru_area.specs.Texts.{text_of}
use Rattle.fru_area.specs.declared.fault.Area.{Area}
use Rattle.fru_area.specs.declared.fault.FruFault.{FruFault}
use Rattle.fru_area.specs.declared.name.FieldName.{FieldName}
use Rattle.fru_area.specs.declared.name.FieldName.TheVariants.{Custom}
use Rattle.fru_area.specs.declared.field.Field.{Field}

abbrev pub named_field : Bool → FieldName → Raw → Field
named_field english name raw = record { name = name; text = text_of english raw }

-- The first fields get the names in their order; further ones are custom fields, from this number on.
abbrev pub named : Area → Bool → List FieldName → ℕ → List Raw → List Field
named area english names number [] = []
named area english (name ∷ names) number (raw ∷ raws) = named_field english name raw ∷ named area english names number raws
named area english [] number (raw ∷ raws) = named_field english (Custom area number) raw ∷ named area english [] (number + 1) raws

abbrev pub named_ok : Area → Bool → List FieldName → Result (List Raw) FruFault → Result (List Field) FruFault
named_ok area english names (Ok raws) = Ok (named area english names 1 raws)
named_ok area english names (Err fault) = Err fault

-- the fields of a whole area from byte `start`, or the first rule that is broken
unfoldable pub area_fields : Area → Bool → List FieldName → List ℕ → ℕ → Result (List Field) FruFault
area_fields area english names bytes start = named_ok area english names (raw_fields area bytes start)
