-- The parts of a tick, put together.
use Rattle.std.proofs.Common.{◌≡◌, ℕ, Bool, List, map, Option, ap, ◌∙◌}
use Rattle.ctl_face.specs.Seen.{Seen}
use Rattle.fan_zone.specs.declared.held.Held.{Held}
use Rattle.fan_zone.specs.declared.rows.ZoneRow.{ZoneRow}
use Rattle.fan_zone.specs.declared.rows.FanRow.{FanRow}
use Rattle.sensor_core.specs.Sensors.{Sensor}
use Rattle.fan_zone.specs.Passes.{pass, thermal_sample, fan_sample}
use Rattle.fan_zone.specs.Rows.{numbered, zone_row, fan_row}
use Rattle.fan_zone.specs.Ticks.{ZonesView, aged, ticked, zone_rows_after, bank_after, fan_rows_after}

-- what the calls of a tick leave, one after another
pub record Calls (slots : List (Option Sensor)) (now : ℕ) (strict : Bool) (old : ZonesView) (thermal : List Seen) (rows : List ZoneRow) (bank : List Seen)
    (fans : List FanRow) (held : List Held) : Type 0 where
  pub thermals : thermal ≡ pass (thermal_sample slots now) old.held old.bank
  pub zones : rows ≡ numbered (zone_row slots now old.zone_plans old.held thermal) 0 old.zone_rows
  pub fans_step : bank ≡ pass (fan_sample slots now rows) old.held thermal
  pub fans_shown : fans ≡ numbered (fan_row strict old.held bank old.zone_plans rows old.fan_plans) 0 old.fan_rows
  pub ages : held ≡ map aged old.held

pub calls_tick : (slots : List (Option Sensor)) (now : ℕ) (strict : Bool) (old : ZonesView) (thermal : List Seen) (rows : List ZoneRow) (bank : List Seen)
    (fans : List FanRow) (held : List Held) → Calls slots now strict old thermal rows bank fans held
    → record { bank = bank; held = held; zone_plans = old.zone_plans; zone_rows = rows; fan_plans = old.fan_plans; fan_rows = fans }
    ≡ ticked slots now strict old
calls_tick slots now strict old thermal rows bank fans held c =
    let z : rows ≡ zone_rows_after slots now old = c.zones ∙ ap (λ (b : List Seen). numbered (zone_row slots now old.zone_plans old.held b) 0
    old.zone_rows) c.thermals in
    let b : bank ≡ bank_after slots now old =
    c.fans_step ∙ (ap (λ (r : List ZoneRow). pass (fan_sample slots now r) old.held thermal) z
    ∙ ap (pass (fan_sample slots now (zone_rows_after slots now old)) old.held) c.thermals) in
    let f : fans ≡ fan_rows_after slots now strict old =
    c.fans_shown ∙ (ap (λ (r : List ZoneRow). numbered (fan_row strict old.held bank old.zone_plans r old.fan_plans) 0 old.fan_rows) z
    ∙ ap (λ (n : List Seen). numbered (fan_row strict old.held n old.zone_plans (zone_rows_after slots now old) old.fan_plans) 0 old.fan_rows) b) in
    let h : held ≡ map aged old.held = c.ages in
    cc
