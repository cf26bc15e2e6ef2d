-- A machine with two zones, on which the tests run.
use Rattle.std.specs.Prelude.{◌≡◌, ℕ, ◌+◌, ℤ, pos, neg_ℤ, List, [], ◌∷◌, codes, replicate, None}
use Rattle.ctl_face.specs.declared.kind.Kind.TheVariants.{Pid as PidKind, Stepwise as StepKind}
use Rattle.ctl_face.specs.declared.setting.PidClass.{PidClass}
use Rattle.ctl_face.specs.declared.setting.PidClass.TheVariants.{Fan, Temp, Margin}
use Rattle.ctl_face.specs.declared.setting.Setting.{Setting}
use Rattle.ctl_face.specs.declared.setting.Setting.TheVariants.{Pid, Stepwise}
use Rattle.ctl_face.specs.declared.setting.StepRow.{StepRow}
use Rattle.ctl_face.specs.Seen.{Seen, unloaded}
use Rattle.cfg_json.specs.declared.item.Item.{Item}
use Rattle.cfg_json.specs.declared.item.ItemPart.{ItemPart}
use Rattle.cfg_json.specs.declared.item.ItemPart.TheVariants as parts
use Rattle.fan_zone.specs.Boxes.{kinds_of}
use Rattle.fan_zone.specs.Laws.{AreLoaded}
use Rattle.fan_zone.specs.Passes.{milli}
use Rattle.fan_zone.specs.Ticks.{ZonesView}

-- as many boxes as the machine has controllers of each kind
abbrev pub boxes : List Seen
boxes = unloaded PidKind ∷ unloaded StepKind ∷ unloaded PidKind ∷ unloaded PidKind ∷ unloaded PidKind ∷ []

-- an item with a number and a name
abbrev pub item_of : ℕ → List ℕ → ItemPart → Item
item_of number name part = record { id = record { config = 0; place = None; expose = number }; name = name; part = part }

abbrev pub zone_of : ℤ → ℤ → ItemPart
zone_of min_thermal failsafe = parts.Zone (record { min_thermal = milli min_thermal; failsafe = milli failsafe })

abbrev pub control_of : Setting → List ℕ → List (List ℕ) → List (List ℕ) → ItemPart
control_of setting zone inputs outputs = parts.Control (record { setting = setting; zone = zone; inputs = inputs; outputs = outputs })

-- a PID controller without integral and derivative part
abbrev pub pid_of : PidClass → ℤ → ℤ → ℤ → Setting
pid_of class setpoint p ff_gain = Pid (record {
  class = class;
  setpoint = milli setpoint;
  p = p;
  i = pos 0;
  d = pos 0;
  ff_gain = ff_gain;
  ff_off = milli (pos 0);
  i_min = milli (pos 0);
  i_max = milli (pos 0);
  out_min = milli (pos 0);
  out_max = milli (pos 100000);
  slew_neg = milli (pos 0);
  slew_pos = milli (pos 0);
})

abbrev pub row_of : ℤ → ℤ → StepRow
row_of reading output = record { reading = milli reading; output = milli output }

-- 10 from 20 on, and 50 from 40 on
abbrev pub stairs : Setting
stairs = Stepwise (record {
  rows = row_of (pos 20000) (pos 10000) ∷ row_of (pos 40000) (pos 50000) ∷ replicate 18 (row_of (pos 0) (pos 0));
  count = 2;
  positive = milli (pos 0);
  negative = milli (pos 0);
})

-- half of the error and the setpoint
abbrev pub fan_pid : Setting
fan_pid = pid_of Fan (pos 0) (pos 500000) (pos 1000000)

-- how far the input is above 30
abbrev pub temp_pid : Setting
temp_pid = pid_of Temp (pos 30000) (neg_ℤ (pos 1000000)) (pos 0)

-- how far the input is below 10
abbrev pub margin_pid : Setting
margin_pid = pid_of Margin (pos 10000) (pos 1000000) (pos 0)

-- the items, with numbers from the first one on
abbrev pub machine : ℕ → List Item
machine first =
    item_of first (codes "cpu") (zone_of (pos 3000) (pos 15000))
    ∷ item_of (first + 1) (codes "disk") (zone_of (pos 2000) (pos 75000))
    ∷ item_of (first + 2) (codes "fan 1") parts.Fan
    ∷ item_of (first + 3) (codes "fan 2") parts.Fan
    ∷ item_of (first + 4) (codes "fan 3") parts.Fan
    ∷ item_of (first + 5) (codes "a") (control_of fan_pid (codes "cpu") (codes "tach 1" ∷ []) (codes "fan 1" ∷ []))
    ∷ item_of (first + 6) (codes "b") (control_of temp_pid (codes "cpu") (codes "inlet" ∷ codes "die" ∷ []) [])
    ∷ item_of (first + 7) (codes "c") (control_of stairs (codes "disk") (codes "inlet" ∷ []) [])
    ∷ item_of (first + 8) (codes "d") (control_of margin_pid (codes "disk") (codes "margin" ∷ []) [])
    ∷ item_of (first + 9) (codes "e") (control_of fan_pid (codes "disk") (codes "tach 2" ∷ codes "tach 1" ∷ []) (codes "fan 2" ∷ codes "fan 1" ∷ []))
    ∷ []

-- the zones are those of these items, over boxes of the kinds of the machine
pub record Stays (live : List Item) (view : ZonesView) : Type 0 where
  pub loaded : AreLoaded live view
  pub kinds : kinds_of view.bank ≡ kinds_of boxes
