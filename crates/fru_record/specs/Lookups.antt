-- A field of a record by its name.
use Rattle.std.specs.Prelude.{ℕ, List, Option, option_map, bytes_eq, find}
use Rattle.std.specs.List.{All}
use Rattle.fru_area.specs.Names.{name_text, IsName}
use Rattle.fru_area.specs.declared.field.Field.{Field}

-- the text of the first field with this name, or none where no field has it
unfoldable pub text_named : List Field → List ℕ → Option (List ℕ)
text_named fields name = option_map (λ field. field.text) (find (λ field. bytes_eq (name_text field.name) name) fields)

-- each field has the name of a field
abbrev pub AreNamed : List Field → Type 0
AreNamed fields = All (λ field. IsName field.name) fields
