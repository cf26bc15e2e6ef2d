-- What holds of settings from one `set` to the next, and of samples.
use Rattle.std.specs.Prelude.{◌≡◌, ℕ, Bool, true, ⊤, List, Option, Some}
use Rattle.std.specs.List.{All, AllByRecursion}
use Rattle.std.specs.Option.{ForSome}
use Rattle.bmc_base.specs.declared.milli.Milli.{Milli}
use Rattle.sensor_core.specs.declared.setting.SensorSetting.{SensorSetting}
use Rattle.sensor_core.specs.Sensors.{Sensor, Outcome, Good, Lost, sensor_of}
use Rattle.sensor_core.specs.Settings.{IsRaw, IsValidSetting}
use Rattle.cfg_json.specs.declared.item.Item.{Item}
use Rattle.ctl_face.specs.Seen.{Seen}
use Rattle.fan_zone.specs.Boxes.{box_at}
use Rattle.fan_zone.specs.Live.{LiveControl, controls, id_eq}
use Rattle.fan_zone.specs.declared.held.Held.{Held}
use Rattle.live_sensors.specs.Sensors.{LiveSensors}
use Rattle.fan_zone.specs.IsSets.{IsSet, Paired}
use Rattle.fan_zone.specs.Settings.{HasSameSetting}
use Rattle.fan_zone.specs.Passes.{sample_of}
use Rattle.fan_zone.specs.Ticks.{ZonesView, ticked}

-- a live controller is held, and its box is loaded with its setting
pub record IsLoaded (bank : List Seen) (control : LiveControl) (held : Held) : Type 0 where
  pub id : held.id ≡ control.id
  pub setting : (box_at bank held.number).setting ≡ Some control.item.setting

-- so it is for each controller of these items, in item order
abbrev pub AreLoaded : List Item → ZonesView → Type 0
AreLoaded live view = Paired (IsLoaded view.bank) (controls live) view.held

-- a controller is among these, or it has the setting of the one with its id
abbrev pub KeepsSetting : List LiveControl → LiveControl → Type 0
KeepsSetting before control = All (λ (old : LiveControl). id_eq old.id control.id ≡ true → old.item.setting ≡ control.item.setting) before

-- controllers are loaded after `set`, and after each tick from then on; and where no controller changes its setting, the next `set` finds
-- those that stay as it asks
pub record SettingsStay : Type 0 where
  pub by_set : (old new : ZonesView) (live : List Item) (sensors : LiveSensors)
      → IsSet old live sensors new → All (HasSameSetting old) (controls live) → AreLoaded live new
  pub by_tick : (slots : List (Option Sensor)) (now : ℕ) (strict : Bool) (view : ZonesView) (live : List Item)
      → AreLoaded live view → AreLoaded live (ticked slots now strict view)
  pub next : (view : ZonesView) (live next : List Item)
      → AreLoaded live view → All (KeepsSetting (controls live)) (controls next) → All (HasSameSetting view) (controls next)

-- a loss, or a good reading whose raw number is in its range, as a sensor takes no other
abbrev pub IsInRange : Outcome → Type 0
IsInRange (Good raw tick) = IsRaw raw
IsInRange Lost = ⊤

-- the value of a sensor is the input of a sample as it is: the range of samples cuts nothing off
abbrev pub ValuesFit : Type 0
ValuesFit =
    (setting : SensorSetting) (outcomes : List Outcome) (setpoint : Milli) → IsValidSetting setting → AllByRecursion IsInRange outcomes
    → ForSome (sensor_of setting outcomes).value (λ value. (sample_of value.0 setpoint).input ≡ value)
