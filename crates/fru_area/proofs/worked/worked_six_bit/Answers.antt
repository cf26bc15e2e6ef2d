use Rattle.std.proofs.Common.{refl}
use Rattle.fru_area.specs.Texts.{text_of}
use Rattle.fru_area.proofs.worked.worked_six_bit.Goals as goal

pub returns : goal.returns
unfolding text_of
returns c = record {
  empty = λ english. refl;
  ipmi = λ english. refl;
  one = λ english. refl;
  two = λ english. refl;
  four = λ english. refl;
  first = λ english. refl;
  last = λ english. refl;
}
