-- What controllers, zones and fans come to, tick by tick.
use Rattle.std.specs.Prelude.{ℕ, suc, ◌%◌, ℤ, pos, nat_eq, Bool, false, ◌&&◌, bytes_eq, if◌then◌else◌, List, [], ◌∷◌, map, filter_map, find}
use Rattle.std.specs.Prelude.{Option, Some, None, unwrap_or}
use Rattle.std.specs.Int.{int_max}
use Rattle.std.specs.List.{fold, list_any}
use Rattle.std.specs.Option.{is_some, option_map_or}
use Rattle.bmc_base.specs.declared.milli.Milli.{Milli}
use Rattle.sensor_core.specs.Sensors.{Sensor}
use Rattle.ctl_face.specs.Steps.{step, blank}
use Rattle.ctl_face.specs.declared.sample.Sample.{Sample}
use Rattle.ctl_face.specs.declared.setting.Setting.{Setting}
use Rattle.ctl_face.specs.declared.state.CtlState.{CtlState}
use Rattle.cfg_json.specs.declared.item.ItemId.{ItemId}
use Rattle.fan_zone.specs.declared.rows.ZoneRow.{ZoneRow}
use Rattle.fan_zone.specs.declared.rows.FanRow.{FanRow}
use Rattle.fan_zone.specs.Inputs.{goods, has_bad, input_of}
use Rattle.fan_zone.specs.Live.{LiveControl, LiveZone, LiveFan, controls, zones}
use Rattle.fan_zone.specs.Passes.{milli, fan_sample_at, thermal_sample_at, thermal_setpoint}
use Rattle.fan_zone.specs.Rows.{commanded, full}
use Rattle.fan_zone.specs.Sets.{role_of}
use Rattle.fan_zone.specs.SetRows.{outputs_to}
use Rattle.bmc_machine.specs.Histories.{Step, Tick, tick_of, is_tick, is_strict}
use Rattle.bmc_machine.specs.Indexes.{live_now}
use Rattle.bmc_machine.specs.Lives.{has_id, sensor_now}

-- what a value is after a step: a tick turns it, by the history before the tick
abbrev pub turned : {A : Type 0} → (List Step → A → A) → List Step → Step → A → A
turned turn past step value = if is_tick step then turn past value else value

-- What an item has come to since it became live last: it starts so, and each tick of its run turns it. The step by which it became live is not in
-- its run.
unfoldable pub since : {A : Type 0} → A → (List Step → A → A) → ItemId → List Step → A
since start turn id [] = start
since start turn id (step ∷ past) = if has_id (live_now past) id then turned turn past step (since start turn id past) else start

-- ---- what a controller reads at the tick that follows a history

-- the tick count then
abbrev pub next_tick : List Step → ℕ
next_tick past = tick_of (Tick ∷ past)

-- for each input, the live sensor of the name, if there is one
abbrev pub inputs_now : List Step → LiveControl → List (Option Sensor)
inputs_now past control = map (sensor_now past) control.item.inputs

-- whether one of them is bad
abbrev pub reads_bad : List Step → LiveControl → Bool
reads_bad past control = has_bad (next_tick past) (inputs_now past control)

-- the input of its step
abbrev pub input_now : List Step → LiveControl → Option ℤ
input_now past control = input_of (role_of control.item.setting) (goods (next_tick past) (inputs_now past control))

-- ---- thermal controllers

abbrev pub is_thermal : LiveControl → Bool
is_thermal control = is_some (thermal_setpoint (role_of control.item.setting))

-- how many ticks there were in the run of an item
abbrev pub age_of : ItemId → List Step → ℕ
age_of id past = since 0 (λ before age. suc age) id past

-- a thermal controller takes part at the 1st, 11th, 21st and so on tick of its run, where an input is good
abbrev pub thermal_sample_now : LiveControl → List Step → Option Sample
thermal_sample_now control past =
    thermal_sample_at (thermal_setpoint (role_of control.item.setting)) (nat_eq (age_of control.id past % 10) 0) (input_now past control)

-- a state after a step, if there is one
abbrev pub stepped_state : Setting → Option Sample → CtlState → CtlState
stepped_state setting None state = state
stepped_state setting (Some sample) state = step setting state sample

-- the state of a thermal controller
abbrev pub thermal_state : LiveControl → List Step → CtlState
thermal_state control past =
    since blank (λ before state. stepped_state control.item.setting (thermal_sample_now control before) state) control.id past

-- ---- zones, after the tick that follows a history

-- the last output of a controller, if it is a thermal one of the zone of this name
abbrev pub zone_output : List Step → List ℕ → LiveControl → Option ℤ
zone_output past name control =
    if bytes_eq control.item.zone name && is_thermal control then (thermal_state control (Tick ∷ past)).output else None

-- the setpoint: the greatest of MinThermalOutput and the last outputs of the live thermal controllers of the zone
abbrev pub setpoint_now : List Step → LiveZone → Milli
setpoint_now past zone = milli (fold int_max zone.setting.min_thermal.0 (filter_map (zone_output past zone.name) (controls (live_now past))))

-- failsafe: an input of at least one of the live controllers of the zone of this name is bad
abbrev pub in_failsafe : List Step → List ℕ → Bool
in_failsafe past name = list_any (λ (control : LiveControl). bytes_eq control.item.zone name && reads_bad past control) (controls (live_now past))

-- what a zone shows after a history: what the last tick of its run gave; before the first, it is normal and has no setpoint
abbrev pub zone_now : List Step → LiveZone → ZoneRow
zone_now past zone =
    since (record { name = zone.name; failsafe = false; setpoint = None })
    (λ before row. record { name = zone.name; failsafe = in_failsafe before zone.name; setpoint = Some (setpoint_now before zone) }) zone.id past

-- ---- fan controllers

-- the live zone of this name
abbrev pub zone_named : List Step → List ℕ → Option LiveZone
zone_named past name = find (λ (zone : LiveZone). bytes_eq zone.name name) (zones (live_now past))

-- a fan controller takes part at each tick of its run, towards the setpoint of its zone
abbrev pub fan_sample_now : LiveControl → List Step → Option Sample
fan_sample_now control past =
    fan_sample_at (thermal_setpoint (role_of control.item.setting)) (input_now past control)
    (option_map_or (setpoint_now past) (zone_named past control.item.zone) (milli (pos 0)))

-- the state of a fan controller
abbrev pub fan_state : LiveControl → List Step → CtlState
fan_state control past =
    since blank (λ before state. stepped_state control.item.setting (fan_sample_now control before) state) control.id past

-- the state of a controller after a history
abbrev pub state_now : LiveControl → List Step → CtlState
state_now control past = if is_thermal control then thermal_state control past else fan_state control past

-- ---- fans, after the tick that follows a history

-- the controller that holds the fan of this name: the first live fan controller that names it as an output
abbrev pub holder_of : List Step → List ℕ → Option LiveControl
holder_of past name = find (λ (control : LiveControl). outputs_to name control.item) (controls (live_now past))

-- the FailSafePercent of the live zone of this name
abbrev pub percent_of : List Step → List ℕ → ℤ
percent_of past name = option_map_or (λ (zone : LiveZone). zone.setting.failsafe.0) (zone_named past name) (pos 0)

-- The duty that a controller commands: its last output. In failsafe it is the greater of this and FailSafePercent, and in strict mode exactly
-- FailSafePercent.
abbrev pub duty_by : List Step → LiveControl → ℤ
duty_by past control =
    commanded (is_strict past) (in_failsafe past control.item.zone) (percent_of past control.item.zone)
    (unwrap_or (state_now control (Tick ∷ past)).output full)

-- the duty of a fan: what the controller that holds it commands, and 100 percent where none does
abbrev pub duty_now : List Step → LiveFan → Milli
duty_now past fan = milli (option_map_or (duty_by past) (holder_of past fan.name) full)

-- what a fan shows after a history: what the last tick of its run gave; before the first, it has no duty
abbrev pub fan_now : List Step → LiveFan → FanRow
fan_now past fan =
    since (record { name = fan.name; duty = None }) (λ before row. record { name = fan.name; duty = Some (duty_now before fan) }) fan.id past
