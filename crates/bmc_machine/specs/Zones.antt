-- When zones, and the boxes that their controllers hold, stand for a history.
use Rattle.std.specs.Prelude.{◌≡◌, ℕ, ◌%◌, false, List, map, Some}
use Rattle.ctl_face.specs.Kinds.{kind_of}
use Rattle.ctl_face.specs.Seen.{Seen, unloaded}
use Rattle.live_sensors.specs.Sensors.{LiveSensors}
use Rattle.fan_zone.specs.declared.held.Held.{Held}
use Rattle.fan_zone.specs.declared.rows.ZoneRow.{ZoneRow}
use Rattle.fan_zone.specs.Boxes.{box_at}
use Rattle.fan_zone.specs.IsSets.{Paired}
use Rattle.fan_zone.specs.Live.{LiveControl, controls, zones, fans}
use Rattle.fan_zone.specs.Sets.{held_of, is_taken, seat_of}
use Rattle.fan_zone.specs.SetRows.{fan_plan_of, plan_of}
use Rattle.fan_zone.specs.Sound.{Differ, number_of}
use Rattle.fan_zone.specs.Ticks.{ZonesView}
use Rattle.bmc_machine.specs.Histories.{Step}
use Rattle.bmc_machine.specs.Indexes.{live_now}
use Rattle.bmc_machine.specs.Turns.{age_of, state_now, zone_now, fan_now}

-- the box of a controller: of its kind, loaded with its setting, and in the state that the history gives it
abbrev pub box_now : List Step → LiveControl → Seen
box_now past control = record { kind = kind_of control.item.setting; setting = Some control.item.setting; state = state_now control past }

-- a live controller is held: what it names are the zones and the sensors of now, its age is that of its run, and its box is as above
pub record Holds (rows : List ZoneRow) (sensors : LiveSensors) (bank : List Seen) (past : List Step) (control : LiveControl) (held : Held) : Type 0 where
  pub names : held ≡ held_of rows sensors control (seat_of held)
  pub age : held.age ≡ age_of control.id past % 10
  pub box : box_at bank held.number ≡ box_now past control

-- zones stand for a history: they are the live ones and show what the history gives them, and so do fans; each live controller is held, with a box
-- of its own; and every other box is unloaded
pub record ZonesStand (view : ZonesView) (sensors : LiveSensors) (past : List Step) : Type 0 where
  pub zone_plans : view.zone_plans ≡ map plan_of (zones (live_now past))
  pub zone_rows : view.zone_rows ≡ map (zone_now past) (zones (live_now past))
  pub fan_plans : view.fan_plans ≡ map (fan_plan_of (controls (live_now past))) (fans (live_now past))
  pub fan_rows : view.fan_rows ≡ map (fan_now past) (fans (live_now past))
  pub held : Paired (Holds view.zone_rows sensors view.bank past) (controls (live_now past)) view.held
  pub apart : Differ (map number_of view.held)
  pub others : (number : ℕ) → is_taken (map number_of view.held) number ≡ false → box_at view.bank number ≡ unloaded (box_at view.bank number).kind
