use Rattle.std.proofs.Common.{refl}
use Rattle.fru_area.specs.Texts.{text_of}
use Rattle.fru_area.proofs.worked.worked_bcd_plus.Goals as goal

pub returns : goal.returns
unfolding text_of
returns c = record { empty = λ english. refl; digits = λ english. refl; marks = λ english. refl; mixed = λ english. refl }
