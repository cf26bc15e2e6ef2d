-- What a template is rendered as, for a place, the fields of a record, and an index.
use Rattle.std.specs.Prelude.{ℕ, List, [], ◌∷◌, ◌++◌, decimal, Option, Some, None, option_map, option_and_then}
use Rattle.std.specs.Borrow.{Bor}
use Rattle.std.specs.Result.{result_ok}
use Rattle.bmc_base.specs.Names.{name_of}
use Rattle.bmc_base.specs.Places.{Place}
use Rattle.fru_area.specs.Names.{name_text}
use Rattle.fru_area.specs.declared.field.Field.{Field}
use Rattle.fru_area.specs.declared.name.FieldName.{FieldName}
use Rattle.fru_record.specs.Lookups.{text_named}
use Rattle.tmpl.specs.Operations.{digits, up_to, applied_all}
use Rattle.tmpl.specs.Templates.{Piece, Plain, Substitution, pieces_of}
use Rattle.tmpl.specs.declared.operation.Operation.{Operation}
use Rattle.tmpl.specs.declared.word.Word.{Word}
use Rattle.tmpl.specs.declared.word.Word.TheVariants as words
use Rattle.tmpl.specs.declared.template.Rendered.{Rendered}
use Rattle.tmpl.specs.declared.template.Rendered.TheVariants.{Given, Skip}

-- the most digits of a field on which operations are done, and of a rendered number
abbrev pub field_digits : ℕ
field_digits = 9

abbrev pub number_digits : ℕ
number_digits = 10

-- a text and the text behind it
abbrev pub followed : List ℕ → Option (List ℕ) → Option (List ℕ)
followed text later = option_map (λ later. text ++ later) later

module _ (place : Option Place) (fields : Option (List Field)) (index : ℕ) where
  -- the text of a field
  abbrev pub field_text : FieldName → Option (List ℕ)
  field_text name = option_and_then (λ fields. text_named fields (name_text name)) fields

  -- the number that a word stands for; a field has to be 1 to 9 digits
  abbrev pub number_at : Word → Option ℕ
  number_at words.Bus = option_map (λ place. place.bus) place
  number_at words.Address = option_map (λ place. place.address) place
  number_at words.Index = Some index
  number_at (words.Field name) = option_and_then (digits field_digits) (field_text name)

  -- the value of a word after its operations
  abbrev pub value_at : Word → List Operation → Option ℕ
  value_at word operations = applied_all (number_at word) operations

  -- a substitution: a field without operations is its text, and all else is its value in decimal
  abbrev pub substituted : Word → List Operation → Option (List ℕ)
  substituted (words.Field name) [] = field_text name
  substituted (words.Field name) (operation ∷ operations) = option_map decimal (value_at (words.Field name) (operation ∷ operations))
  substituted words.Bus operations = option_map decimal (value_at words.Bus operations)
  substituted words.Address operations = option_map decimal (value_at words.Address operations)
  substituted words.Index operations = option_map decimal (value_at words.Index operations)

  abbrev pub piece_text : Piece → Option (List ℕ)
  piece_text (Plain byte) = Some (byte ∷ [])
  piece_text (Substitution word operations) = option_and_then (λ word. substituted word operations) word

  -- the text of pieces, which is none where one of them has none
  abbrev pub pieces_text : List Piece → Option (List ℕ)
  pieces_text [] = Some []
  pieces_text (piece ∷ pieces) = option_and_then (λ text. followed text (pieces_text pieces)) (piece_text piece)

  -- what a template is rendered as: a name of 1 to 64 bytes, or none
  unfoldable pub rendered : List ℕ → Option (List ℕ)
  rendered text = option_and_then (λ text. result_ok (name_of text)) (pieces_text (pieces_of text))

  -- what is rendered of a text behind another
  abbrev pub rendered_behind : List ℕ → List ℕ → Option (List ℕ)
  rendered_behind out rest = option_and_then (λ text. result_ok (name_of text)) (followed out (pieces_text (pieces_of rest)))

  -- the number that it is rendered as: 1 to 10 digits, and at most the maximum
  unfoldable pub rendered_number : List ℕ → ℕ → Option ℕ
  rendered_number text max = option_and_then (up_to max) (option_and_then (digits number_digits) (rendered text))

-- the fields of a record
abbrev pub fields_of : Option (Bor (List Field)) → Option (List Field)
fields_of record_at = option_map (λ fields. fields.now) record_at

-- what is answered
abbrev pub given : Option (List ℕ) → Rendered
given None = Skip
given (Some name) = Given name
