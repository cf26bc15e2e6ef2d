-- The rows of the list of zones and fans.
use Rattle.std.specs.Prelude.{ℕ, Bool, List, ◌++◌, codes, Option}
use Rattle.bmc_base.specs.declared.milli.Milli.{Milli}
use Rattle.bmc_report.specs.Changes.{mode_text}
use Rattle.bmc_report.specs.Quoted.{quoted}
use Rattle.bmc_report.specs.Values.{value_text}

-- the row of a zone: its name, its mode and its setpoint
unfoldable pub zone_row : List ℕ → Bool → Option Milli → List ℕ
zone_row name failsafe setpoint = codes "zone " ++ quoted name ++ codes " " ++ mode_text failsafe ++ codes " " ++ value_text setpoint ++ codes "\n"

-- the row of a fan: its name and its duty
unfoldable pub fan_row : List ℕ → Option Milli → List ℕ
fan_row name duty = codes "fan " ++ quoted name ++ codes " " ++ value_text duty ++ codes "\n"
