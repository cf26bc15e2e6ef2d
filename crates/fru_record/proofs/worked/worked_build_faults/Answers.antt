use Rattle.std.proofs.Common.{refl}
use Rattle.std.specs.Str.{chars}
use Rattle.fru_record.specs.Building.{build_fault}
use Rattle.fru_record.proofs.worked.worked_build_faults.Goals as goal

pub returns : goal.returns
unfolding chars build_fault
returns c = record {
  date = refl;
  latin = refl;
  length = refl;
  single = refl;
  area = refl;
  full = refl;
  over = refl;
  last_start = refl;
  past_start = refl;
}
