-- The controllers of a document.
use Rattle.std.specs.Prelude.{ℕ, List, [], ◌∷◌, codes, Result, Ok, Err}
use Rattle.serde_json.specs.Data.{Data}
use Rattle.serde_json.specs.Find.{get}
use Rattle.ctl_face.specs.declared.setting.PidClass.{PidClass}
use Rattle.ctl_face.specs.declared.setting.PidClass.TheVariants.{Fan, Temp, Margin}
use Rattle.ctl_face.specs.declared.setting.Setting.TheVariants.{Pid, Stepwise}
use Rattle.cfg_json.specs.declared.config_fault.ConfigFault.{ConfigFault}
use Rattle.cfg_json.specs.declared.config_fault.ConfigFault.TheVariants.{OutOfRange}
use Rattle.cfg_json.specs.declared.expose.ControlPart.{ControlPart}
use Rattle.cfg_json.specs.Configs.{most_names}
use Rattle.cfg_json.specs.Values.{◌>>=◌, required, text_only, list_only, list_within, each}
use Rattle.cfg_json.specs.Names.{template_name}
use Rattle.cfg_json.specs.Pids.{class_of, pid_of}
use Rattle.cfg_json.specs.Stepwises.{stepwise_of}

-- the one element of a list
abbrev pub sole : List Data → Result Data ConfigFault
sole [] = Err OutOfRange
sole (value ∷ []) = Ok value
sole (value ∷ other ∷ values) = Err OutOfRange

-- the name of the zone, which is the one of its list
abbrev pub zone_name : Data → Result (List ℕ) ConfigFault
zone_name members = required (get (codes "Zones") members) >>= list_only >>= sole >>= template_name

-- the names in a list
abbrev pub names_in : Data → Result (List (List ℕ)) ConfigFault
names_in value = list_within 1 most_names value >>= each template_name

-- the names of the inputs
abbrev pub inputs_of : Data → Result (List (List ℕ)) ConfigFault
inputs_of members = required (get (codes "Inputs") members) >>= names_in

-- the names of the outputs, which are read for class fan alone
abbrev pub outputs_of : PidClass → Data → Result (List (List ℕ)) ConfigFault
outputs_of Fan members = required (get (codes "Outputs") members) >>= names_in
outputs_of Temp members = Ok []
outputs_of Margin members = Ok []

-- a PID controller
abbrev pub pid_control : Data → Result ControlPart ConfigFault
pid_control members =
    required (get (codes "Class") members) >>= text_only >>= class_of >>= λ class.
    zone_name members >>= λ zone.
    inputs_of members >>= λ inputs.
    outputs_of class members >>= λ outputs.
    pid_of class members >>= λ setting.
    Ok (record { setting = Pid setting; zone = zone; inputs = inputs; outputs = outputs })

-- a stepwise controller
abbrev pub stepwise_control : Data → Result ControlPart ConfigFault
stepwise_control members =
    zone_name members >>= λ zone.
    inputs_of members >>= λ inputs.
    stepwise_of members >>= λ setting.
    Ok (record { setting = Stepwise setting; zone = zone; inputs = inputs; outputs = [] })
