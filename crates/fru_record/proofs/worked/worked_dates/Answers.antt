use Rattle.std.proofs.Common.{refl}
use Rattle.std.specs.Fmt.{digits}
use Rattle.fru_record.specs.Dates.{manufacture_day, date_text}
use Rattle.fru_record.proofs.worked.worked_dates.Goals as goal

pub returns : goal.returns
unfolding digits manufacture_day date_text
returns c = record {
  first = refl;
  minute = refl;
  month = refl;
  leap = refl;
  century = refl;
  next = refl;
  leap_century = refl;
  year = refl;
  later = refl;
  last = refl;
}
