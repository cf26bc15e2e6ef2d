use Rattle.std.proofs.Common.{refl}
use Rattle.std.specs.Fmt.{digits as glyphs}
use Rattle.fru_area.specs.Names.{name_text}
use Rattle.tmpl.specs.Words.{field_of, word_of}
use Rattle.tmpl.proofs.worked.worked_words.Goals as goal

pub returns : goal.returns
unfolding word_of field_of name_text glyphs
returns c = record {
  upper_case = refl;
  first = refl;
  last = refl;
  past_last = refl;
  zero = refl;
  leading_zero = refl;
  no_number = refl;
  index_in_capitals = refl;
}
