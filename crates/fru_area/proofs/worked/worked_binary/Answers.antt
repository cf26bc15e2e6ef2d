use Rattle.std.proofs.Common.{refl}
use Rattle.hex.specs.Hex.{encode_with}
use Rattle.fru_area.specs.Texts.{text_of}
use Rattle.fru_area.proofs.worked.worked_binary.Goals as goal

pub returns : goal.returns
unfolding encode_with text_of
returns c = record { empty = λ english. refl; two = λ english. refl; letters = λ english. refl }
