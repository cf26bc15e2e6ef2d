use Rattle.std.proofs.Common.{refl}
use Rattle.std.specs.Fmt.{digits}
use Rattle.fru_area.specs.Names.{name_text}
use Rattle.fru_area.proofs.worked.worked_names.Goals as goal

pub returns : goal.returns
unfolding digits name_text
returns c = record { chassis = refl; board = refl; product = refl }
