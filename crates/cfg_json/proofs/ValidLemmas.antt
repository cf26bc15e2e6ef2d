-- What is read of a configuration is valid.
use Rattle.std.proofs.Common.{◌≡◌, ℕ, pos, neg_ℤ, List, [], ◌∷◌, Bool, true, false, Option, Some, None, Result, Ok, Err, if◌then◌else◌, refl, subst, codes}
use Rattle.std.specs.Prelude.{IfOk, bytes_eq}
use Rattle.std.specs.List.{All}
use Rattle.std.proofs.lemmas.List.Elements.{All-nil, All-cons}
use Rattle.bmc_base.specs.Places.{last_bus, last_address}
use Rattle.sensor_core.specs.Settings.{IsValidSetting}
use Rattle.serde_json.specs.Data.{Data}
use Rattle.serde_json.specs.Find.{get}
use Rattle.cfg_json.specs.declared.config_fault.ConfigFault.{ConfigFault}
use Rattle.cfg_json.specs.declared.expose.Expose.{Expose}
use Rattle.cfg_json.specs.declared.expose.SensorPart.{SensorPart}
use Rattle.cfg_json.specs.declared.expose.ZoneSetting.{ZoneSetting}
use Rattle.cfg_json.specs.Configs.{IsValidBody, IsValidExpose, IsValidZone, IsValidControl}
use Rattle.cfg_json.specs.Values.{◌>>=◌, required, object_only, short_text, optional, each, list_within, milli_within, any_milli}
use Rattle.cfg_json.specs.Sensors.{number_template, setting_of, sensor_of}
use Rattle.cfg_json.specs.Names.{template_name}
use Rattle.cfg_json.specs.Controls.{pid_control, stepwise_control}
use Rattle.cfg_json.specs.Channels.{mux_of}
use Rattle.cfg_json.specs.Exposes.{most_exposes, zone_of, body_of, expose_of, exposes_of}
use Rattle.cfg_json.proofs.SettingsLemmas.{then_ok, milli_in, setting_valid}
use Rattle.cfg_json.proofs.ControlsLemmas.{pid_control_valid, stepwise_control_valid}

-- ---- what holds of all that is read

module _ {B : Type 0} (Fact : B → Type 0) where
  read_holds : (part : Result B ConfigFault) → ((value : B) → part ≡ Ok value → Fact value) → IfOk part Fact
  read_holds (Ok value) holds = holds value refl
  read_holds (Err fault) holds = tt

  -- behind a part, whatever it is
  next_holds : {A : Type 0} (part : Result A ConfigFault) (next : A → Result B ConfigFault) → ((value : A) → IfOk (next value) Fact)
      → IfOk (part >>= next) Fact
  next_holds (Ok value) next holds = holds value
  next_holds (Err fault) next holds = tt

  -- behind a part of which something holds
  then_holds : {A : Type 0} (Known : A → Type 0) (part : Result A ConfigFault) (next : A → Result B ConfigFault) → IfOk part Known
      → ((value : A) → Known value → IfOk (next value) Fact) → IfOk (part >>= next) Fact
  then_holds Known (Ok value) next known holds = holds value known
  then_holds Known (Err fault) next known holds = tt

  -- by a test
  test_holds : (test : Bool) (one other : Result B ConfigFault) → IfOk one Fact → IfOk other Fact → IfOk (if test then one else other) Fact
  test_holds true one other here there = here
  test_holds false one other here there = there

-- ---- what is valid

abbrev HasValidSetting : SensorPart → Type 0
HasValidSetting part = IsValidSetting part.setting

sensor_valid : (members : Data) → IfOk (sensor_of members) HasValidSetting
sensor_valid members =
    next_holds HasValidSetting (optional (number_template last_bus) (get (codes "Bus") members)) _ (λ bus.
    next_holds HasValidSetting (optional (number_template last_address) (get (codes "Address") members)) _ (λ address.
    then_holds HasValidSetting IsValidSetting (setting_of members) _ (read_holds IsValidSetting (setting_of members) (setting_valid members))
    (λ setting valid. valid)))

-- the numbers of a zone
zone_numbers : (members : Data) (setting : ZoneSetting) → zone_of members ≡ Ok setting → IsValidZone setting
zone_numbers members setting e =
    let least = then_ok (required (get (codes "MinThermalOutput") members) >>= any_milli) _ setting e in
    let least_read = then_ok (required (get (codes "MinThermalOutput") members)) any_milli least.value least.reads in
    let duty = then_ok (required (get (codes "FailSafePercent") members) >>= milli_within (pos 0) (pos 100)) _ setting least.later in
    let duty_read = then_ok (required (get (codes "FailSafePercent") members)) (milli_within (pos 0) (pos 100)) duty.value duty.reads in
    let wide = milli_in (neg_ℤ (pos 1000000)) (pos 1000000) least_read.value least.value least_read.later in
    let percent = milli_in (pos 0) (pos 100) duty_read.value duty.value duty_read.later in
    let same : record { min_thermal = least.value; failsafe = duty.value } ≡ setting = cc (duty.later) in
    subst IsValidZone same (record { min_thermal = (wide.low, wide.high); failsafe = (percent.low, percent.high) })

zone_valid : (members : Data) → IfOk (zone_of members) IsValidZone
zone_valid members = read_holds IsValidZone (zone_of members) (zone_numbers members)

body_valid : (members : Data) (kind : List ℕ) → IfOk (body_of members kind) IsValidBody
unfolding body_of
body_valid members kind =
    test_holds IsValidBody (bytes_eq kind (codes "Sensor")) _ _
    (then_holds IsValidBody HasValidSetting (sensor_of members) _ (sensor_valid members) (λ part valid. valid))
    (test_holds IsValidBody (bytes_eq kind (codes "Fan")) _ _ tt
    (test_holds IsValidBody (bytes_eq kind (codes "Pid.Zone")) _ _
    (then_holds IsValidBody IsValidZone (zone_of members) _ (zone_valid members) (λ setting valid. valid))
    (test_holds IsValidBody (bytes_eq kind (codes "Pid")) _ _
    (then_holds IsValidBody IsValidControl (pid_control members) _
    (read_holds IsValidControl (pid_control members) (pid_control_valid members)) (λ part valid. valid))
    (test_holds IsValidBody (bytes_eq kind (codes "Stepwise")) _ _
    (then_holds IsValidBody IsValidControl (stepwise_control members) _
    (read_holds IsValidControl (stepwise_control members) (stepwise_control_valid members)) (λ part valid. valid))
    (test_holds IsValidBody (bytes_eq kind (codes "Mux")) _ _
    (next_holds IsValidBody (required (get (codes "Channels") members) >>= mux_of) _ (λ part. tt)) tt)))))

expose_valid : (value : Data) → IfOk (expose_of value) IsValidExpose
expose_valid value =
    next_holds IsValidExpose (object_only value) _ (λ members.
    next_holds IsValidExpose (required (get (codes "Name") members) >>= template_name) _ (λ name.
    next_holds IsValidExpose (required (get (codes "Type") members) >>= short_text) _ (λ kind.
    then_holds IsValidExpose IsValidBody (body_of members kind) _ (body_valid members kind) (λ body valid. valid))))

each_valid : (values : List Data) → IfOk (each expose_of values) (All IsValidExpose)
each_valid [] = All-nil IsValidExpose
each_valid (value ∷ values) =
    then_holds (All IsValidExpose) IsValidExpose (expose_of value) _ (expose_valid value) (λ first valid.
    then_holds (All IsValidExpose) (All IsValidExpose) (each expose_of values) _ (each_valid values) (λ later all.
    All-cons IsValidExpose first later valid all))

found_valid : (found : Option Data) → IfOk (exposes_of found) (All IsValidExpose)
found_valid None = All-nil IsValidExpose
found_valid (Some value) = next_holds (All IsValidExpose) (list_within 0 most_exposes value) (each expose_of) each_valid

-- exposes that are read are valid
pub exposes_valid : (found : Option Data) (exposes : List Expose) → exposes_of found ≡ Ok exposes → All IsValidExpose exposes
exposes_valid found exposes read =
    subst (λ (result : Result (List Expose) ConfigFault). IfOk result (All IsValidExpose)) read (found_valid found)
