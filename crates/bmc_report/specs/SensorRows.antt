-- The rows of the list of sensors.
use Rattle.std.specs.Prelude.{ℕ, Bool, true, false, if◌then◌else◌, List, [], ◌++◌, codes, decimal, Option, Some, None}
use Rattle.std.specs.List.{flat_map, enumerate_from}
use Rattle.bmc_base.specs.declared.milli.Milli.{Milli}
use Rattle.bmc_report.specs.Quoted.{quoted}
use Rattle.bmc_report.specs.Values.{value_text}

-- whether a sensor failed or is in order
abbrev pub state_text : Bool → List ℕ
state_text true = codes "failed"
state_text false = codes "ok"

-- the age of the last reading in ticks; a sensor without one has a dash there
abbrev pub age_text : Option ℕ → List ℕ
age_text None = codes "-"
age_text (Some age) = decimal age

-- the position of an alarm that is on
abbrev pub alarm_text : ℕ × Bool → List ℕ
alarm_text alarm = if alarm.1 then codes " " ++ decimal alarm.0 else []

-- the positions of the alarms that are on, from 0
unfoldable pub alarms_text : List Bool → List ℕ
alarms_text alarms = flat_map alarm_text (enumerate_from 0 alarms)

-- the row of a sensor: its name, value, state and age, and its alarms that are on
unfoldable pub sensor_row : List ℕ → Option Milli → Bool → Option ℕ → List Bool → List ℕ
sensor_row name value failed age alarms =
    codes "sensor " ++ quoted name ++ codes " " ++ value_text value ++ codes " " ++ state_text failed ++ codes " " ++ age_text age
    ++ alarms_text alarms ++ codes "\n"
