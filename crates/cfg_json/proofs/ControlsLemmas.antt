-- Controllers that are read are valid, and reading one names no pattern.
use Rattle.std.proofs.Common.{◌≡◌, ◌≤◌, ℕ, List, [], ◌∷◌, length, Ok, subst, arith, codes}
use Rattle.serde_json.specs.Data.{Data}
use Rattle.serde_json.specs.Find.{get}
use Rattle.ctl_face.specs.declared.setting.PidClass.{PidClass}
use Rattle.ctl_face.specs.declared.setting.PidClass.TheVariants.{Fan, Temp, Margin}
use Rattle.ctl_face.specs.declared.setting.Setting.TheVariants.{Pid, Stepwise}
use Rattle.cfg_json.specs.declared.expose.ControlPart.{ControlPart}
use Rattle.cfg_json.specs.Configs.{most_names, IsValidControl}
use Rattle.cfg_json.specs.Values.{◌>>=◌, required, text_only, list_only, list_within, each}
use Rattle.cfg_json.specs.Names.{template_name}
use Rattle.cfg_json.specs.Pids.{class_of, pid_of}
use Rattle.cfg_json.specs.Stepwises.{stepwise_of}
use Rattle.cfg_json.specs.Controls.{sole, zone_name, names_in, inputs_of, outputs_of, pid_control, stepwise_control}
use Rattle.cfg_json.proofs.PartsLemmas.{NamesNoPattern, then_none, each_none, wanted_none, text_none, list_none, length_none, name_none}
use Rattle.cfg_json.proofs.SettingsLemmas.{then_ok}
use Rattle.cfg_json.proofs.PidsLemmas.{pid_valid, class_none, pid_setting_none}
use Rattle.cfg_json.proofs.StepwisesLemmas.{each_size, listed_is, stepwise_valid, step_setting_none}

-- ---- what is valid

-- names in a list are at most sixteen
names_few : (value : Data) (names : List (List ℕ)) → names_in value ≡ Ok names → length names ≤ most_names
names_few value names e =
    let values = then_ok (list_within 1 most_names value) (each template_name) names e in
    let few = listed_is 1 most_names value values.value values.reads in
    let size : length names ≡ length values.value = each_size template_name values.value names values.later in
    omega (arith, few.few, size)

inputs_few : (members : Data) (names : List (List ℕ)) → inputs_of members ≡ Ok names → length names ≤ most_names
inputs_few members names e =
    let value = then_ok (required (get (codes "Inputs") members)) names_in names e in
    names_few value.value names value.later

outputs_few : (class : PidClass) (members : Data) (names : List (List ℕ)) → outputs_of class members ≡ Ok names → length names ≤ most_names
outputs_few Fan members names e =
    let value = then_ok (required (get (codes "Outputs") members)) names_in names e in
    names_few value.value names value.later
outputs_few Temp members names e =
    let same : [] ≡ names = cc in subst (λ (names : List (List ℕ)). length names ≤ most_names) same (omega arith)
outputs_few Margin members names e =
    let same : [] ≡ names = cc in subst (λ (names : List (List ℕ)). length names ≤ most_names) same (omega arith)

pub pid_control_valid : (members : Data) (part : ControlPart) → pid_control members ≡ Ok part → IsValidControl part
pid_control_valid members part e =
    let class = then_ok (required (get (codes "Class") members) >>= text_only >>= class_of) _ part e in
    let zone = then_ok (zone_name members) _ part class.later in
    let inputs = then_ok (inputs_of members) _ part zone.later in
    let outputs = then_ok (outputs_of class.value members) _ part inputs.later in
    let setting = then_ok (pid_of class.value members) _ part outputs.later in
    let read : ControlPart =
    record { setting = Pid setting.value; zone = zone.value; inputs = inputs.value; outputs = outputs.value } in
    let same : read ≡ part = cc (setting.later) in
    subst IsValidControl same (record {
      setting = pid_valid class.value members setting.value setting.reads;
      inputs = inputs_few members inputs.value inputs.reads;
      outputs = outputs_few class.value members outputs.value outputs.reads;
    })

pub stepwise_control_valid : (members : Data) (part : ControlPart) → stepwise_control members ≡ Ok part → IsValidControl part
stepwise_control_valid members part e =
    let zone = then_ok (zone_name members) _ part e in
    let inputs = then_ok (inputs_of members) _ part zone.later in
    let setting = then_ok (stepwise_of members) _ part inputs.later in
    let read : ControlPart = record { setting = Stepwise setting.value; zone = zone.value; inputs = inputs.value; outputs = [] } in
    let same : read ≡ part = cc (setting.later) in
    subst IsValidControl same (record {
      setting = stepwise_valid members setting.value setting.reads;
      inputs = inputs_few members inputs.value inputs.reads;
      outputs = omega arith;
    })

-- ---- no pattern is named

sole_none : (values : List Data) → NamesNoPattern (sole values)
sole_none [] = tt
sole_none (value ∷ []) = tt
sole_none (value ∷ other ∷ values) = tt

zone_name_none : (members : Data) → NamesNoPattern (zone_name members)
zone_name_none members =
    then_none (required (get (codes "Zones") members) >>= list_only >>= sole) _
    (then_none (required (get (codes "Zones") members) >>= list_only) _ (wanted_none list_only list_none (get (codes "Zones") members)) sole_none) name_none

names_none : (value : Data) → NamesNoPattern (names_in value)
names_none value =
    then_none (list_within 1 most_names value) _ (then_none (list_only value) _ (list_none value) (length_none 1 most_names))
    (each_none template_name name_none)

inputs_none : (members : Data) → NamesNoPattern (inputs_of members)
inputs_none members = wanted_none names_in names_none (get (codes "Inputs") members)

outputs_none : (class : PidClass) (members : Data) → NamesNoPattern (outputs_of class members)
outputs_none Fan members = wanted_none names_in names_none (get (codes "Outputs") members)
outputs_none Temp members = tt
outputs_none Margin members = tt

pub pid_none : (members : Data) → NamesNoPattern (pid_control members)
pid_none members =
    then_none (required (get (codes "Class") members) >>= text_only >>= class_of) _
    (then_none (required (get (codes "Class") members) >>= text_only) _ (wanted_none text_only text_none (get (codes "Class") members)) class_none) (λ class.
    then_none (zone_name members) _ (zone_name_none members) (λ zone. then_none (inputs_of members) _ (inputs_none members) (λ inputs.
    then_none (outputs_of class members) _ (outputs_none class members) (λ outputs.
    then_none (pid_of class members) _ (pid_setting_none class members) (λ setting. tt)))))

pub stepwise_none : (members : Data) → NamesNoPattern (stepwise_control members)
stepwise_none members =
    then_none (zone_name members) _ (zone_name_none members) (λ zone. then_none (inputs_of members) _ (inputs_none members) (λ inputs.
    then_none (stepwise_of members) _ (step_setting_none members) (λ setting. tt)))
