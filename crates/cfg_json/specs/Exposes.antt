-- The exposes of a document.
use Rattle.std.specs.Prelude.{ℕ, Bool, not, ◌==◌, bytes_eq, if◌then◌else◌, pos, List, [], length, codes, Option, Some, None, Result, Ok}
use Rattle.serde_json.specs.Data.{Data}
use Rattle.serde_json.specs.Find.{get}
use Rattle.cfg_json.specs.declared.config_fault.ConfigFault.{ConfigFault}
use Rattle.cfg_json.specs.declared.expose.Expose.{Expose}
use Rattle.cfg_json.specs.declared.expose.Body.{Body}
use Rattle.cfg_json.specs.declared.expose.Body.TheVariants.{Sensor, Fan, Zone, Control, Mux, Passive}
use Rattle.cfg_json.specs.declared.expose.ZoneSetting.{ZoneSetting}
use Rattle.cfg_json.specs.Configs.{moving_in}
use Rattle.cfg_json.specs.Values.{◌>>=◌, required, object_only, list_within, short_text, milli_within, any_milli, each}
use Rattle.cfg_json.specs.Names.{template_name}
use Rattle.cfg_json.specs.Controls.{pid_control, stepwise_control}
use Rattle.cfg_json.specs.Channels.{mux_of}
use Rattle.cfg_json.specs.Sensors.{sensor_of}

-- the most exposes of a configuration
abbrev pub most_exposes : ℕ
most_exposes = 256

-- the setting of a zone; the duty in failsafe is 0 to 100 percent
abbrev pub zone_of : Data → Result ZoneSetting ConfigFault
zone_of members =
    required (get (codes "MinThermalOutput") members) >>= any_milli >>= λ least.
    required (get (codes "FailSafePercent") members) >>= milli_within (pos 0) (pos 100) >>= λ failsafe.
    Ok (record { min_thermal = least; failsafe = failsafe })

-- the body of an expose of this type; one of any other type is passive
unfoldable pub body_of : Data → List ℕ → Result Body ConfigFault
body_of members kind =
    if bytes_eq kind (codes "Sensor") then sensor_of members >>= (λ part. Ok (Sensor part))
    else if bytes_eq kind (codes "Fan") then Ok Fan
    else if bytes_eq kind (codes "Pid.Zone") then zone_of members >>= (λ setting. Ok (Zone setting))
    else if bytes_eq kind (codes "Pid") then pid_control members >>= (λ part. Ok (Control part))
    else if bytes_eq kind (codes "Stepwise") then stepwise_control members >>= (λ part. Ok (Control part))
    else if bytes_eq kind (codes "Mux") then required (get (codes "Channels") members) >>= mux_of >>= (λ part. Ok (Mux part))
    else Ok Passive

abbrev pub expose_of : Data → Result Expose ConfigFault
expose_of value =
    object_only value >>= λ members.
    required (get (codes "Name") members) >>= template_name >>= λ name.
    required (get (codes "Type") members) >>= short_text >>= λ kind.
    body_of members kind >>= λ body.
    Ok (record { name = name; kind = kind; body = body })

-- the exposes of a configuration, if there are any
abbrev pub exposes_of : Option Data → Result (List Expose) ConfigFault
exposes_of None = Ok []
exposes_of (Some value) = list_within 0 most_exposes value >>= each expose_of

-- whether a channel of an expose moves with the place
abbrev pub has_moving : Expose → Bool
has_moving expose = not (length (moving_in expose.body) == 0)
