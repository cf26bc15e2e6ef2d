use Rattle.std.proofs.Common.{refl}
use Rattle.fru_area.specs.Headers.{header, area_at}
use Rattle.fru_area.specs.Walks.{first_field, walk, raw_fields}
use Rattle.fru_area.specs.Areas.{area_fields}
use Rattle.fru_record.specs.Records.{fields_of_area, fields_at, fields_under, record_of}
use Rattle.fru_record.proofs.worked.worked_faults.Goals as goal

pub returns : goal.returns
unfolding header area_at first_field walk raw_fields area_fields fields_of_area fields_at fields_under record_of
returns c = record {
  short = refl;
  long = refl;
  version = refl;
  sum = refl;
  outside = refl;
  area_version = refl;
  length = refl;
  area_sum = refl;
  field = refl;
  end_mark = refl;
  chassis = refl;
}
