use Rattle.std.proofs.Common.{refl}
use lib.Utf8.{encode}
use Rattle.fru_area.specs.Texts.{text_of}
use Rattle.fru_area.proofs.worked.worked_latin.Goals as goal

pub returns : goal.returns
unfolding encode text_of
returns c = record { empty = refl; ascii = refl; control = refl; high = refl }
