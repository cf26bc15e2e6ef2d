-- What zones and fans show otherwise than before.
use Rattle.std.specs.Prelude.{Bool, List, ◌++◌, map, Option}
use Rattle.std.specs.List.{flat_map, zip}
use Rattle.bmc_base.specs.declared.milli.Milli.{Milli}
use Rattle.bmc_report.specs.declared.change.Change.{Change}
use Rattle.fan_zone.specs.declared.rows.ZoneRow.{ZoneRow}
use Rattle.fan_zone.specs.declared.rows.FanRow.{FanRow}
use Rattle.bmc_machine.specs.Changes.{mode_change, duty_change}

-- the mode of each zone, and the duty of each fan, in item order
pub record PanelView : Type 0 where
  pub modes : List Bool
  pub duties : List (Option Milli)

abbrev pub modes_of : List ZoneRow → List Bool
modes_of rows = map (λ (row : ZoneRow). row.failsafe) rows

abbrev pub duties_of : List FanRow → List (Option Milli)
duties_of rows = map (λ (row : FanRow). row.duty) rows

abbrev pub panel_of : List ZoneRow → List FanRow → PanelView
panel_of zones fans = record { modes = modes_of zones; duties = duties_of fans }

-- a row shows another mode, or another duty
abbrev pub row_mode : Bool × ZoneRow → List Change
row_mode (was, row) = mode_change row.name was row.failsafe

abbrev pub row_duty : Option Milli × FanRow → List Change
row_duty (was, row) = duty_change row.name was row.duty

-- the zones with another mode, and then the fans with another duty
abbrev pub panel_changes : PanelView → List ZoneRow → List FanRow → List Change
panel_changes before zones fans = flat_map row_mode (zip before.modes zones) ++ flat_map row_duty (zip before.duties fans)
