use Rattle.std.proofs.Common.{refl}
use lib.Utf8.{encode}
use Rattle.std.specs.Str.{chars}
use Rattle.std.specs.Fmt.{digits}
use Rattle.fru_area.specs.Names.{name_text}
use Rattle.bmc_report.specs.Changes.{change_text}
use Rattle.bmc_report.specs.Quoted.{quoted}
use Rattle.bmc_report.specs.Refusals.{area_text, refusal_name, refusal_text}
use Rattle.bmc_report.specs.Rows.{field_row, fru_row}
use Rattle.bmc_report.specs.SensorRows.{alarms_text, sensor_row}
use Rattle.bmc_report.proofs.examples.printed_texts.Goals as goal

pub returns : goal.returns
unfolding encode chars digits name_text change_text quoted area_text refusal_name refusal_text field_row fru_row alarms_text sensor_row
returns c = record { refused = refl; file = refl; area = refl; new = refl; gone = refl; alarm = refl; quoted = refl; bare = refl; fields = refl; sensor = refl }
