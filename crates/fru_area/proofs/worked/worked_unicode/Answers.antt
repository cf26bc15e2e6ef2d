use Rattle.std.proofs.Common.{refl}
use lib.Utf8.{encode}
use Rattle.std.specs.Char.Utf16.{utf16_chars}
use Rattle.fru_area.specs.Texts.{text_of}
use Rattle.fru_area.proofs.worked.worked_unicode.Goals as goal

pub returns : goal.returns
unfolding encode utf16_chars text_of
returns c = record { empty = refl; two = refl; pair = refl; last_pair = refl; high_alone = refl; low_alone = refl; odd = refl }
