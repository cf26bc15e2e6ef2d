use Rattle.std.proofs.Common.{refl}
use lib.Utf8.{encode}
use Rattle.fru_area.specs.Areas.{area_fields}
use Rattle.fru_area.specs.Texts.{text_of}
use Rattle.fru_area.specs.Walks.{first_field, walk, raw_fields}
use Rattle.fru_area.proofs.worked.worked_area.Goals as goal

pub returns : goal.returns
unfolding encode text_of first_field walk raw_fields area_fields
returns c = record { sum = refl; fields = refl }
