-- After each tick the fans of a zone with a bad input have at least its percent, whatever happened before.
use Rattle.std.proofs.Common.{◌≡◌, ◌∙◌, ℕ, ℤ, pos, List, [], ◌∷◌, Bool, true, ◌&&◌, ◌||◌, Option, Some, refl, ap, ap₂, sym, subst, map, option_map}
use Rattle.std.proofs.Common.{slice_get, unwrap_or}
use Rattle.std.specs.Prelude.{bytes_eq, find}
use Rattle.std.specs.Cmp.Lexicographic.{bytes_decides}
use Rattle.std.specs.List.{list_any}
use Rattle.std.specs.Option.{option_map_or}
use Rattle.std.proofs.lemmas.Option.{slice_get-map}
use Rattle.bmc_base.specs.Counts.{raised}
use Rattle.cfg_json.specs.declared.item.Item.{Item}
use Rattle.sensor_core.specs.Sensors.{Sensor}
use Rattle.live_sensors.specs.Sensors.{sensor_in}
use Rattle.fan_zone.specs.Failsafe.{IsSafe, duty_in, duty_of}
use Rattle.fan_zone.specs.Inputs.{has_bad}
use Rattle.fan_zone.specs.Live.{LiveControl, LiveFan, LiveZone, controls, fans, zones}
use Rattle.fan_zone.specs.Passes.{milli}
use Rattle.fan_zone.specs.Rows.{commanded, full}
use Rattle.fan_zone.specs.SetRows.{outputs_to}
use Rattle.fan_zone.specs.declared.rows.FanRow.{FanRow}
use Rattle.fan_zone.proofs.FailsafeLaw.{commands_failsafe}
use Rattle.bmc_machine.specs.Histories.{Step, Tick}
use Rattle.bmc_machine.specs.Indexes.{live_now}
use Rattle.bmc_machine.specs.Lives.{sensor_now}
use Rattle.bmc_machine.specs.Turns.{duty_by, duty_now, fan_now, in_failsafe, next_tick, percent_of, state_now}
use Rattle.bmc_machine.proofs.IdleLemmas.{live_same}
use Rattle.bmc_machine.proofs.SinceLemmas.{since_live}
use Rattle.bmc_machine.proofs.TickLemmas.{at_place, found_passes}
use Rattle.bmc_machine.proofs.TickedLemmas.{fans_there}
use Rattle.bmc_watch.proofs.WatchesLemmas.{live_is}
use Rattle.bmc_core.specs.States.{StateView, IsState, StateStands, ticked_state, zones_ticked}
use Rattle.bmc_core.specs.Failsafe.{IsFailsafe, holder_of, is_zone_bad, live_items, zone_of}
use Rattle.bmc_core.proofs.TickedLemmas.{ticked_stands}

module _ (state : StateView) (past : List Step) (stood : StateStands state past) where
  live_are : live_items (ticked_state state) ≡ live_now past
  live_are = live_is state.senses.watch past stood.senses.watch

  counted : raised state.senses.ticks 1 ≡ next_tick past
  counted = ap (λ (count : ℕ). raised count 1) stood.senses.ticks

  inputs_are : (names : List (List ℕ)) → map (sensor_in state.senses.sensors) names ≡ map (sensor_now past) names
  inputs_are [] = refl
  inputs_are (name ∷ names) =
      ap₂ (λ (first : Option Sensor) (later : List (Option Sensor)). first ∷ later) (stood.senses.sensors name) (inputs_are names)

  -- what is bad for the state is bad for the history
  bad_are : (name : List ℕ) (those : List LiveControl)
      → list_any (λ (control : LiveControl). bytes_eq control.item.zone name
      && has_bad (raised state.senses.ticks 1) (map (sensor_in state.senses.sensors) control.item.inputs)) those
      ≡ list_any (λ (control : LiveControl). bytes_eq control.item.zone name
      && has_bad (next_tick past) (map (sensor_now past) control.item.inputs)) those
  bad_are name [] = refl
  bad_are name (control ∷ those) =
      ap₂ (λ (first later : Bool). first || later)
      (ap₂ (λ (count : ℕ) (inputs : List (Option Sensor)). bytes_eq control.item.zone name && has_bad count inputs) counted (inputs_are control.item.inputs))
      (bad_are name those)

  module _ (number : ℕ) (fan : LiveFan) (control : LiveControl) (zone : LiveZone)
      (at : slice_get (fans (live_items (ticked_state state))) number ≡ Some fan) (holds : holder_of (ticked_state state) fan ≡ Some control)
      (named : zone_of (ticked_state state) control ≡ Some zone) (bad : is_zone_bad (ticked_state state) zone.name ≡ true) where
    fan_at : slice_get (fans (live_now past)) number ≡ Some fan
    fan_at = ap (λ (live : List Item). slice_get (fans live) number) (sym live_are) ∙ at

    held_by : find (λ (control : LiveControl). outputs_to fan.name control.item) (controls (live_now past)) ≡ Some control
    held_by = ap (λ (live : List Item). find (λ (control : LiveControl). outputs_to fan.name control.item) (controls live)) (sym live_are) ∙ holds

    zone_is : find (λ (zone : LiveZone). bytes_eq zone.name control.item.zone) (zones (live_now past)) ≡ Some zone
    zone_is = ap (λ (live : List Item). find (λ (zone : LiveZone). bytes_eq zone.name control.item.zone) (zones live)) (sym live_are) ∙ named

    same_name : zone.name ≡ control.item.zone
    same_name =
        (bytes_decides zone.name control.item.zone).0
        (found_passes (λ (zone : LiveZone). bytes_eq zone.name control.item.zone) (zones (live_now past)) zone zone_is)

    failsafe : in_failsafe past control.item.zone ≡ true
    failsafe =
        ap (in_failsafe past) (sym same_name) ∙ sym (bad_are zone.name (controls (live_now past)))
        ∙ ap (λ (live : List Item). list_any (λ (control : LiveControl). bytes_eq control.item.zone zone.name
        && has_bad (raised state.senses.ticks 1) (map (sensor_in state.senses.sensors) control.item.inputs)) (controls live)) (sym live_are)
        ∙ bad

    percent : percent_of past control.item.zone ≡ zone.setting.failsafe.0
    percent = ap (λ (zone : Option LiveZone). option_map_or (λ (zone : LiveZone). zone.setting.failsafe.0) zone (pos 0)) zone_is

    abbrev output : ℤ
    output = unwrap_or (state_now control (Tick ∷ past)).output full

    duty : duty_now past fan ≡ milli (commanded state.strict true zone.setting.failsafe.0 output)
    duty =
        ap (λ (holder : Option LiveControl). milli (option_map_or (duty_by past) holder full)) held_by
        ∙ (λ i. milli (commanded (sym stood.strict i) (failsafe i) (percent i) output))

    row : slice_get (zones_ticked state).fan_rows number ≡ Some (fan_now (Tick ∷ past) fan)
    row =
        ap (λ (rows : List FanRow). slice_get rows number) ((ticked_stands state past stood).0.zones.fan_rows
        ∙ ap (λ (live : List Item). map (fan_now (Tick ∷ past)) (fans live)) (live_same Tick past refl))
        ∙ slice_get-map (fan_now (Tick ∷ past)) (fans (live_now past)) number ∙ ap (option_map (fan_now (Tick ∷ past))) fan_at

    fan_then : fan_now (Tick ∷ past) fan ≡ record { name = fan.name; duty = Some (duty_now past fan) }
    fan_then = since_live _ _ fan.id Tick past (at_place _ (fans (live_now past)) number fan (fans_there past) fan_at)

    shown : duty_of (zones_ticked state) number ≡ Some (milli (commanded state.strict true zone.setting.failsafe.0 output))
    shown = ap duty_in row ∙ ap (λ (row : FanRow). row.duty) fan_then ∙ ap Some duty

    is_safe : IsSafe state.strict zone.setting.failsafe.0 (duty_of (zones_ticked state) number)
    is_safe = subst (IsSafe state.strict zone.setting.failsafe.0) (sym shown) (commands_failsafe state.strict zone.setting.failsafe.0 output)

pub always_failsafe : (state : StateView) → IsState state → IsFailsafe (ticked_state state)
always_failsafe state is = λ number fan control zone at holds named bad. is_safe state is.past is.stands number fan control zone at holds named bad
