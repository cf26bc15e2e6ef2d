use Rattle.std.proofs.Common.{refl}
use lib.Utf8.{encode}
use Rattle.std.specs.Fmt.{digits}
use Rattle.fru_area.specs.Headers.{header, area_at}
use Rattle.fru_area.specs.Walks.{first_field, walk, raw_fields}
use Rattle.fru_area.specs.Texts.{text_of}
use Rattle.fru_area.specs.Areas.{area_fields}
use Rattle.fru_record.specs.Dates.{manufacture_day, date_text}
use Rattle.fru_record.specs.Records.{fields_of_area, fields_at, fields_under, record_of}
use Rattle.fru_record.proofs.worked.worked_records.Goals as goal

pub returns : goal.returns
unfolding encode digits header area_at first_field walk raw_fields text_of area_fields manufacture_day date_text fields_of_area fields_at fields_under record_of
returns c = record { board = refl; dated = refl; whole = refl }
