-- The two passes of a tick: thermal controllers, and then fan controllers.
use Rattle.std.specs.Prelude.{ℕ, ◌*◌, ◌^◌, ℤ, pos, neg_ℤ, nat_eq, Bool, true, false, List, [], ◌∷◌, set, Option, Some, None, unwrap_or, slice_get}
use Rattle.bmc_base.specs.declared.milli.Milli.{Milli}
use Rattle.ctl_face.specs.declared.sample.Sample.{Sample}
use Rattle.ctl_face.specs.Floors.{clamped}
use Rattle.ctl_face.specs.Seen.{Seen, stepped}
use Rattle.sensor_core.specs.Sensors.{Sensor}
use Rattle.fan_zone.specs.Boxes.{box_at}
use Rattle.fan_zone.specs.declared.held.Held.{Held}
use Rattle.fan_zone.specs.declared.held.Role.{Role}
use Rattle.fan_zone.specs.declared.held.Role.TheVariants.{Fan, Temp, Margin}
use Rattle.fan_zone.specs.declared.rows.ZoneRow.{ZoneRow}
use Rattle.fan_zone.specs.Inputs.{good_inputs, input_of}

abbrev pub milli : ℤ → Milli
milli value = record { 0 = value }

-- the setpoint of a thermal controller
abbrev pub thermal_setpoint : Role → Option Milli
thermal_setpoint Fan = None
thermal_setpoint (Temp setpoint) = Some setpoint
thermal_setpoint (Margin setpoint) = Some setpoint

-- how far from 0 the input of a sample is at the most: 2,000,000,000,000 units, in thousandths
abbrev pub most_input : ℕ
most_input = 2 * 10 ^ 15

-- the sample of an input and a setpoint; an input out of range, which no sensor gives, counts as the nearest number in it
abbrev pub sample_of : ℤ → Milli → Sample
sample_of input setpoint = record { input = milli (clamped (neg_ℤ (pos most_input)) (pos most_input) input); setpoint = setpoint }

abbrev pub sample_at : Option ℤ → Milli → Option Sample
sample_at None setpoint = None
sample_at (Some input) setpoint = Some (sample_of input setpoint)

abbrev pub thermal_sample_at : Option Milli → Bool → Option ℤ → Option Sample
thermal_sample_at None due input = None
thermal_sample_at (Some setpoint) false input = None
thermal_sample_at (Some setpoint) true input = sample_at input setpoint

-- a thermal controller takes part at the 1st, 11th, 21st and so on tick of its run, where an input is good
abbrev pub thermal_sample : List (Option Sensor) → ℕ → Held → Option Sample
thermal_sample slots now held =
    thermal_sample_at (thermal_setpoint held.role) (nat_eq held.age 0) (input_of held.role (good_inputs slots now held.inputs))

abbrev pub shown : Option ZoneRow → Milli
shown None = milli (pos 0)
shown (Some row) = unwrap_or row.setpoint (milli (pos 0))

-- the setpoint that a zone shows
abbrev pub shown_setpoint : List ZoneRow → ℕ → Milli
shown_setpoint rows zone = shown (slice_get rows zone)

abbrev pub fan_sample_at : Option Milli → Option ℤ → Milli → Option Sample
fan_sample_at None input setpoint = Some (sample_of (unwrap_or input (pos 0)) setpoint)
fan_sample_at (Some thermal) input setpoint = None

-- a fan controller takes part at each tick of its run, by the setpoint that its zone shows
abbrev pub fan_sample : List (Option Sensor) → ℕ → List ZoneRow → Held → Option Sample
fan_sample slots now rows held =
    fan_sample_at (thermal_setpoint held.role) (input_of held.role (good_inputs slots now held.inputs)) (shown_setpoint rows held.zone)

abbrev pub step_box : List Seen → ℕ → Option Sample → List Seen
step_box bank number None = bank
step_box bank number (Some sample) = set bank number (stepped (box_at bank number) sample)

-- each controller that has a sample steps its box
abbrev pub pass : (Held → Option Sample) → List Held → List Seen → List Seen
pass sample [] bank = bank
pass sample (held ∷ more) bank = pass sample more (step_box bank held.number (sample held))
