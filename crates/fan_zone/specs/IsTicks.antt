-- What a tick means for the boxes.
use Rattle.std.specs.Prelude.{◌≡◌, ℕ, false, List, map, Option, Some, None, slice_get}
use Rattle.ctl_face.specs.declared.sample.Sample.{Sample}
use Rattle.ctl_face.specs.Seen.{Seen, stepped}
use Rattle.fan_zone.specs.Boxes.{box_at, kinds_of}
use Rattle.fan_zone.specs.declared.held.Held.{Held}
use Rattle.sensor_core.specs.Sensors.{Sensor}
use Rattle.fan_zone.specs.Passes.{thermal_sample, fan_sample}
use Rattle.fan_zone.specs.Sets.{is_taken}
use Rattle.fan_zone.specs.Sound.{number_of}
use Rattle.fan_zone.specs.Ticks.{ZonesView}

abbrev pub stepped_by : Option Sample → Seen → Seen
stepped_by None seen = seen
stepped_by (Some sample) seen = stepped seen sample

-- the box of each controller has the controller's own step, by the setpoint that its zone shows after the tick, and no other box is touched
pub record StepsOwnBoxes (slots : List (Option Sensor)) (now : ℕ) (old new : ZonesView) : Type 0 where
  pub own : (n : ℕ) (held : Held) → slice_get old.held n ≡ Some held
      → box_at new.bank held.number
      ≡ stepped_by (fan_sample slots now new.zone_rows held) (stepped_by (thermal_sample slots now held) (box_at old.bank held.number))
  pub kinds : kinds_of new.bank ≡ kinds_of old.bank
  pub others : (number : ℕ) → is_taken (map number_of old.held) number ≡ false → box_at new.bank number ≡ box_at old.bank number
