-- What holds after each tick, whatever happened before.
use Rattle.std.specs.Prelude.{◌≡◌, ℕ, Bool, true, ◌&&◌, bytes_eq, List, find, slice_get, Option, Some, map}
use Rattle.std.specs.List.{list_any}
use Rattle.cfg_json.specs.declared.item.Item.{Item}
use Rattle.fan_zone.specs.Failsafe.{IsSafe, duty_of}
use Rattle.fan_zone.specs.Inputs.{has_bad}
use Rattle.fan_zone.specs.Live.{LiveControl, LiveFan, LiveZone, controls, fans, zones}
use Rattle.fan_zone.specs.SetRows.{outputs_to}
use Rattle.inventory.specs.Items.{live}
use Rattle.live_sensors.specs.Sensors.{sensor_in}
use Rattle.bmc_watch.specs.Watches.{view_items}
use Rattle.bmc_core.specs.States.{StateView}

-- the live items
abbrev pub live_items : StateView → List Item
live_items state = live (view_items state.senses.watch)

-- whether an input of a controller is bad: the name has no live sensor, or this had no good reading yet, failed, or is stale
abbrev pub reads_bad : StateView → LiveControl → Bool
reads_bad state control = has_bad state.senses.ticks (map (sensor_in state.senses.sensors) control.item.inputs)

-- whether a live controller of the zone of this name has a bad input
abbrev pub is_zone_bad : StateView → List ℕ → Bool
is_zone_bad state name =
    list_any (λ (control : LiveControl). bytes_eq control.item.zone name && reads_bad state control) (controls (live_items state))

-- the controller that holds a fan: the first live fan controller that names it as an output
abbrev pub holder_of : StateView → LiveFan → Option LiveControl
holder_of state fan = find (λ (control : LiveControl). outputs_to fan.name control.item) (controls (live_items state))

-- the zone of a controller
abbrev pub zone_of : StateView → LiveControl → Option LiveZone
zone_of state control = find (λ (zone : LiveZone). bytes_eq zone.name control.item.zone) (zones (live_items state))

-- Each live fan that is held by a controller of a zone with a bad input has a duty, which is at least the FailSafePercent of this zone, and in
-- strict mode exactly that. Fans are numbered in item order.
abbrev pub IsFailsafe : StateView → Type 0
IsFailsafe state =
    (number : ℕ) (fan : LiveFan) (control : LiveControl) (zone : LiveZone) → slice_get (fans (live_items state)) number ≡ Some fan
    → holder_of state fan ≡ Some control → zone_of state control ≡ Some zone → is_zone_bad state zone.name ≡ true
    → IsSafe state.strict zone.setting.failsafe.0 (duty_of state.zones number)
