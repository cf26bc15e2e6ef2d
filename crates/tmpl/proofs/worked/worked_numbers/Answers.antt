use Rattle.std.proofs.Common.{refl}
use Rattle.std.specs.Fmt.{digits as glyphs}
use Rattle.fru_area.specs.Names.{name_text}
use Rattle.fru_record.specs.Lookups.{text_named}
use Rattle.tmpl.specs.Chains.{chain_behind}
use Rattle.tmpl.specs.Operations.{digits, operation_at}
use Rattle.tmpl.specs.Numbers.{fixed_number}
use Rattle.tmpl.specs.Words.{field_of, word_of}
use Rattle.tmpl.specs.Templates.{piece_at, pieces_of}
use Rattle.tmpl.specs.Rendering.{rendered, rendered_number}
use Rattle.tmpl.proofs.worked.worked_numbers.Goals as goal

pub returns : goal.returns
unfolding chain_behind digits operation_at word_of field_of name_text text_named glyphs piece_at pieces_of rendered rendered_number fixed_number
returns c = record {
  fixed = refl;
  above = refl;
  computed = refl;
  leading_zeros = refl;
  ten_digits = refl;
  no_number = refl;
  hexadecimal = refl;
}
