-- One tick of the zones.
use Rattle.std.specs.Prelude.{ℕ, ◌+◌, ◌%◌, Bool, List, [], map, Option}
use Rattle.ctl_face.specs.Seen.{Seen}
use Rattle.fan_zone.specs.declared.held.Held.{Held}
use Rattle.fan_zone.specs.declared.rows.ZonePlan.{ZonePlan}
use Rattle.fan_zone.specs.declared.rows.ZoneRow.{ZoneRow}
use Rattle.fan_zone.specs.declared.rows.FanPlan.{FanPlan}
use Rattle.fan_zone.specs.declared.rows.FanRow.{FanRow}
use Rattle.sensor_core.specs.Sensors.{Sensor}
use Rattle.fan_zone.specs.Passes.{pass, thermal_sample, fan_sample}
use Rattle.fan_zone.specs.Rows.{numbered, zone_row, fan_row}

-- what is seen of zones. The bank is all boxes. A controller that is held is a live one with its box; its number is that of its box, and its age
-- is the count of its ticks, modulo 10. A plan is what is kept of a zone or a fan from tick to tick, and a row is what is shown of it: the plan and
-- the row of one zone, or one fan, have the same place in their lists. A seat is the box of a controller with its age
pub record ZonesView : Type 0 where
  pub bank : List Seen
  pub held : List Held
  pub zone_plans : List ZonePlan
  pub zone_rows : List ZoneRow
  pub fan_plans : List FanPlan
  pub fan_rows : List FanRow

abbrev pub view_of : List Seen → List Held → List ZonePlan → List ZoneRow → List FanPlan → List FanRow → ZonesView
view_of bank held zone_plans zone_rows fan_plans fan_rows = record {
  bank = bank;
  held = held;
  zone_plans = zone_plans;
  zone_rows = zone_rows;
  fan_plans = fan_plans;
  fan_rows = fan_rows;
}

-- these boxes, and nothing else
abbrev pub no_zones : List Seen → ZonesView
no_zones bank = view_of bank [] [] [] [] []

abbrev pub aged : Held → Held
aged held = record held { age = (held.age + 1) % 10 }

-- the boxes after the thermal pass
abbrev pub thermal_bank : List (Option Sensor) → ℕ → ZonesView → List Seen
thermal_bank slots now old = pass (thermal_sample slots now) old.held old.bank

-- the setpoints and the modes of zones
abbrev pub zone_rows_after : List (Option Sensor) → ℕ → ZonesView → List ZoneRow
zone_rows_after slots now old = numbered (zone_row slots now old.zone_plans old.held (thermal_bank slots now old)) 0 old.zone_rows

-- the boxes after the fan pass
abbrev pub bank_after : List (Option Sensor) → ℕ → ZonesView → List Seen
bank_after slots now old = pass (fan_sample slots now (zone_rows_after slots now old)) old.held (thermal_bank slots now old)

-- the duties of fans
abbrev pub fan_rows_after : List (Option Sensor) → ℕ → Bool → ZonesView → List FanRow
fan_rows_after slots now strict old =
    numbered (fan_row strict old.held (bank_after slots now old) old.zone_plans (zone_rows_after slots now old) old.fan_plans) 0 old.fan_rows

-- the zones after a tick: the thermal pass, setpoints and modes of zones, the fan pass, and duties of fans
abbrev pub ticked : List (Option Sensor) → ℕ → Bool → ZonesView → ZonesView
ticked slots now strict old = record {
  bank = bank_after slots now old;
  held = map aged old.held;
  zone_plans = old.zone_plans;
  zone_rows = zone_rows_after slots now old;
  fan_plans = old.fan_plans;
  fan_rows = fan_rows_after slots now strict old;
}
