use Rattle.std.proofs.Common.{refl}
use Rattle.std.specs.Fmt.{digits as glyphs}
use Rattle.fru_area.specs.Names.{name_text}
use Rattle.tmpl.specs.Chains.{chain_behind}
use Rattle.tmpl.specs.Operations.{digits, operation_at}
use Rattle.tmpl.specs.Words.{field_of, word_of}
use Rattle.tmpl.specs.Templates.{piece_at, pieces_of, is_template}
use Rattle.tmpl.proofs.worked.worked_templates.Goals as goal

pub returns : goal.returns
unfolding chain_behind digits operation_at word_of field_of name_text glyphs piece_at pieces_of is_template
returns c = record {
  plain = refl;
  empty = refl;
  longest = refl;
  too_long = refl;
  no_word = refl;
  two_dollars = refl;
  unknown_word = refl;
  longer_word = refl;
  by_zero = refl;
  by_zeros = refl;
  no_operation = refl;
  five_digits = refl;
}
