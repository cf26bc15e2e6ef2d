use Rattle.std.proofs.Common.{refl}
use lib.Utf8.{encode}
use Rattle.std.specs.Fmt.{digits}
use Rattle.std.specs.Str.{chars}
use Rattle.fru_record.specs.Dates.{manufacture_day, date_text}
use Rattle.fru_record.specs.Building.{build_fault, record_bytes}
use Rattle.fru_record.proofs.worked.worked_parts.Goals as goal

pub returns : goal.returns
unfolding encode digits chars manufacture_day date_text build_fault record_bytes
returns c = record {
  whole = record { allowed = refl; built = refl };
  whole_fields = refl;
  last_minute = record { allowed = refl; built = refl };
  late = refl;
  last_latin = record { allowed = refl; built = refl };
  past_latin = refl;
  longest = record { allowed = refl; built = refl };
  too_long = refl;
  control = refl;
  space = record { allowed = refl; built = refl };
  low_line = record { allowed = refl; built = refl };
  grave = refl;
}
