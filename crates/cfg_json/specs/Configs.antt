-- What is seen of a configuration.
use Rattle.std.specs.Prelude.{ℕ, ◌≤◌, Bool, true, false, ⊤, pos, List, [], length, filter}
use Rattle.std.specs.List.{All, flat_map}
use Rattle.ctl_face.specs.Kinds.{kind_of, kind_eq}
use Rattle.ctl_face.specs.Ranges.{IsBetween, IsMilli, IsValid}
use Rattle.ctl_face.specs.declared.kind.Kind.{Kind}
use Rattle.ctl_face.specs.declared.kind.Kind.TheVariants.{Pid, Stepwise}
use Rattle.sensor_core.specs.Settings.{IsValidSetting}
use Rattle.probe_lang.specs.Values.{Probe}
use Rattle.probe_lang.specs.Matches.{texts_of}
use Rattle.probe_lang.specs.declared.pattern_text.Member.{Member}
use Rattle.cfg_json.specs.declared.expose.Expose.{Expose}
use Rattle.cfg_json.specs.declared.expose.Body.{Body}
use Rattle.cfg_json.specs.declared.expose.Body.TheVariants.{Sensor, Fan, Zone, Control, Mux, Passive}
use Rattle.cfg_json.specs.declared.expose.ControlPart.{ControlPart}
use Rattle.cfg_json.specs.declared.expose.ZoneSetting.{ZoneSetting}
use Rattle.cfg_json.specs.declared.counts.Counts.{Counts}

-- its name, the probe by which it is found, the patterns of the probe by number, and its exposes
pub record Config : Type 0 where
  pub name : List ℕ
  pub probe : Probe
  pub patterns : List (List Member)
  pub exposes : List Expose

-- the texts of its patterns that are compiled, in their order
abbrev pub pattern_texts : Config → List (List ℕ)
pattern_texts config = flat_map texts_of config.patterns

-- the buses to which the fixed channels of an expose lead, and the templates of those to which its moving channels lead
abbrev pub fixed_in : Body → List ℕ
fixed_in (Mux part) = part.fixed
fixed_in (Sensor part) = []
fixed_in Fan = []
fixed_in (Zone setting) = []
fixed_in (Control part) = []
fixed_in Passive = []

abbrev pub moving_in : Body → List (List ℕ)
moving_in (Mux part) = part.moving
moving_in (Sensor part) = []
moving_in Fan = []
moving_in (Zone setting) = []
moving_in (Control part) = []
moving_in Passive = []

-- those of all exposes of a configuration
abbrev pub fixed_of : Config → List ℕ
fixed_of config = flat_map (λ (expose : Expose). fixed_in expose.body) config.exposes

abbrev pub moving_of : Config → List (List ℕ)
moving_of config = flat_map (λ (expose : Expose). moving_in expose.body) config.exposes

-- whether an expose is a sensor, whether it is a zone, and whether it is a fan
abbrev pub is_sensor : Expose → Bool
is_sensor expose = sensor expose.body
  where
    sensor : Body → Bool
    sensor (Sensor part) = true
    sensor Fan = false
    sensor (Zone setting) = false
    sensor (Control part) = false
    sensor (Mux part) = false
    sensor Passive = false

abbrev pub is_zone : Expose → Bool
is_zone expose = zone expose.body
  where
    zone : Body → Bool
    zone (Zone setting) = true
    zone (Sensor part) = false
    zone Fan = false
    zone (Control part) = false
    zone (Mux part) = false
    zone Passive = false

abbrev pub is_fan : Expose → Bool
is_fan expose = fan expose.body
  where
    fan : Body → Bool
    fan Fan = true
    fan (Sensor part) = false
    fan (Zone setting) = false
    fan (Control part) = false
    fan (Mux part) = false
    fan Passive = false

-- whether a body is a controller of this kind
abbrev pub controls_by : Kind → Body → Bool
controls_by kind (Control part) = kind_eq kind (kind_of part.setting)
controls_by kind (Sensor part) = false
controls_by kind Fan = false
controls_by kind (Zone setting) = false
controls_by kind (Mux part) = false
controls_by kind Passive = false

-- whether an expose is a PID controller, and whether it is a stepwise one
abbrev pub is_pid : Expose → Bool
is_pid expose = controls_by Pid expose.body

abbrev pub is_stepwise : Expose → Bool
is_stepwise expose = controls_by Stepwise expose.body

-- how many exposes of each kind there are
abbrev pub counts_of : List Expose → Counts
counts_of exposes = record {
  sensors = length (filter is_sensor exposes);
  zones = length (filter is_zone exposes);
  fans = length (filter is_fan exposes);
  pids = length (filter is_pid exposes);
  steps = length (filter is_stepwise exposes);
}

-- the most inputs of a controller, and the most outputs
abbrev pub most_names : ℕ
most_names = 16

-- the numbers of a zone are in their ranges: its duty in failsafe is 0 to 100 percent
pub record IsValidZone (setting : ZoneSetting) : Type 0 where
  pub min_thermal : IsMilli setting.min_thermal.0
  pub failsafe : IsBetween (pos 0) (pos 100000) setting.failsafe.0

-- the setting of a controller is valid, and it has few inputs and outputs
pub record IsValidControl (part : ControlPart) : Type 0 where
  pub setting : IsValid part.setting
  pub inputs : length part.inputs ≤ most_names
  pub outputs : length part.outputs ≤ most_names

-- the numbers of a body are in their ranges
abbrev pub IsValidBody : Body → Type 0
IsValidBody (Sensor part) = IsValidSetting part.setting
IsValidBody Fan = ⊤
IsValidBody (Zone setting) = IsValidZone setting
IsValidBody (Control part) = IsValidControl part
IsValidBody (Mux part) = ⊤
IsValidBody Passive = ⊤

abbrev pub IsValidExpose : Expose → Type 0
IsValidExpose expose = IsValidBody expose.body

-- all that a configuration exposes is valid
abbrev pub IsValidConfig : Config → Type 0
IsValidConfig config = All IsValidExpose config.exposes
