-- Laws of verdicts, of settings, and of controllers.
use Rattle.std.specs.Prelude.{◌≡◌, ◌≢◌, ◌++◌, Result, Ok, Err}
use Rattle.pat_gate.specs.Makers.{Maker}
use Rattle.serde_json.specs.Data.{Data}
use Rattle.sensor_core.specs.declared.setting.SensorSetting.{SensorSetting}
use Rattle.sensor_core.specs.Settings.{IsValidSetting}
use Rattle.cfg_json.specs.Configs.{Config, IsValidControl}
use Rattle.cfg_json.specs.Readings.{GivesConfig}
use Rattle.cfg_json.specs.Sensors.{setting_of}
use Rattle.cfg_json.specs.Controls.{pid_control, stepwise_control}
use Rattle.cfg_json.specs.Verdicts.{TiedToReading, large_in, verdict_of}
use Rattle.cfg_json.specs.declared.config_fault.ConfigFault.{ConfigFault}
use Rattle.cfg_json.specs.declared.config_fault.ConfigFault.TheVariants.{OutOfMemory}
use Rattle.cfg_json.specs.declared.expose.ControlPart.{ControlPart}

-- what is answered of a document, but for want of memory, is a verdict that is tied to its reading, and the maker lists what it calls too large
abbrev pub AnswersAreVerdicts : Type 0
AnswersAreVerdicts = (old new : Maker) (result read : Result Config ConfigFault) → GivesConfig old new result read → result ≢ Err OutOfMemory
    → TiedToReading read (verdict_of result) × (new.refused ≡ old.refused ++ large_in (verdict_of result))

-- all numbers of a setting that is read are in their ranges
abbrev pub SettingsAreValid : Type 0
SettingsAreValid = (members : Data) (setting : SensorSetting) → setting_of members ≡ Ok setting → IsValidSetting setting

-- all numbers of a controller that is read are in their ranges, and it has few inputs and outputs
abbrev pub PidsAreValid : Type 0
PidsAreValid = (members : Data) (part : ControlPart) → pid_control members ≡ Ok part → IsValidControl part

abbrev pub StepwisesAreValid : Type 0
StepwisesAreValid = (members : Data) (part : ControlPart) → stepwise_control members ≡ Ok part → IsValidControl part
