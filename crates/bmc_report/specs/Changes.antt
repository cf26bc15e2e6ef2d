-- What changes, as text.
use Rattle.std.specs.Prelude.{ℕ, Bool, true, false, List, ◌++◌, codes, decimal}
use Rattle.bmc_base.specs.Milli.{milli_text}
use Rattle.bmc_report.specs.Boards.{board_text}
use Rattle.bmc_report.specs.Places.{place_text}
use Rattle.bmc_report.specs.Quoted.{quoted}
use Rattle.bmc_report.specs.Refusals.{refusal_text}
use Rattle.bmc_report.specs.declared.change.Change.{Change}
use Rattle.bmc_report.specs.declared.change.Change.TheVariants as change
use Rattle.bmc_report.specs.declared.live_kind.LiveKind.{LiveKind}
use Rattle.bmc_report.specs.declared.live_kind.LiveKind.TheVariants.{Sensor, Zone, Fan, Controller}

-- whether a thing is gone or new
abbrev pub verb_text : Bool → List ℕ
verb_text true = codes "gone"
verb_text false = codes "new"

-- the word of a kind of live items
unfoldable pub kind_text : LiveKind → List ℕ
kind_text Sensor = codes "sensor"
kind_text Zone = codes "zone"
kind_text Fan = codes "fan"
kind_text Controller = codes "controller"

-- whether a sensor failed or works again
abbrev pub failure_text : Bool → List ℕ
failure_text true = codes "failed"
failure_text false = codes "working"

-- whether an alarm went on or off
abbrev pub switch_text : Bool → List ℕ
switch_text true = codes "on"
switch_text false = codes "off"

-- whether an alarm is on at high or at low values
abbrev pub side_text : Bool → List ℕ
side_text true = codes "high"
side_text false = codes "low"

-- whether an alarm is critical or a warning
abbrev pub level_text : Bool → List ℕ
level_text true = codes "critical"
level_text false = codes "warning"

-- whether a zone is in failsafe
abbrev pub mode_text : Bool → List ℕ
mode_text true = codes "failsafe"
mode_text false = codes "normal"

-- what is printed of a change, without the tick
unfoldable pub change_text : Change → List ℕ
change_text (change.Board gone name index place) = verb_text gone ++ codes " board " ++ board_text name index place
change_text (change.Item gone kind name) = verb_text gone ++ codes " " ++ kind_text kind ++ codes " " ++ quoted name
change_text (change.Stale name) = codes "stale read " ++ quoted name
change_text (change.Failure failed name) = failure_text failed ++ codes " sensor " ++ quoted name
change_text (change.Alarm on name position high critical) =
    codes "alarm " ++ switch_text on ++ codes " " ++ quoted name ++ codes " " ++ decimal position
    ++ codes " " ++ side_text high ++ codes " " ++ level_text critical
change_text (change.Zone failsafe name) = mode_text failsafe ++ codes " zone " ++ quoted name
change_text (change.Duty name duty) = codes "duty fan " ++ quoted name ++ codes " " ++ milli_text duty.0
change_text (change.PlugRefused place refusal) = codes "refused plug " ++ place_text place ++ codes " " ++ refusal_text refusal

-- what is printed of a change at this tick
abbrev pub change_line : ℕ → Change → List ℕ
change_line tick change = decimal tick ++ codes " " ++ change_text change ++ codes "\n"
