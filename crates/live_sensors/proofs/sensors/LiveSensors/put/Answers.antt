use Rattle.std.proofs.Common.{◌≡◌, ◌∙◌, bytes_eq, cond, [], Some, None, ap}
use Rattle.std.specs.Map.{lookup}
use Rattle.sensor_core.specs.Sensors.{sensor_of}
use Rattle.live_sensors.specs.Sensors.{LiveSensors, sensor_in, slot_of}
use Rattle.live_sensors.proofs.SlotsLemmas.{no_slot, come_shows, come_tied, other_keeps}
use Rattle.live_sensors.proofs.sensors.LiveSensors.put.Goals as goal
use Rattle.live_sensors.proofs.sensors.LiveSensors.put.Goals.{In-Ok}

-- the name had no slot
nameless : (c : In-Ok) → lookup (bytes_eq c.args.name) c.self.inside.slots.entries ≡ None
nameless c =
    no_slot _ c.self.inside.table.slots c.args.name c.self.invariant
    (ap (λ (sensors : LiveSensors). sensor_in sensors c.args.name) c.self.view_is ∙ c.requires.free)

pub invariant_of-self : goal.invariant_of-self
invariant_of-self c =
    come_tied _ _ _ _ _ _ _ c.self.invariant (nameless c) c.put-slot.ensures.free c.put-slot.ensures.puts.changed c.put-slot.ensures.puts.others
    c.in-Ok.ensures.updates.0

pub returns-clause-sensors : goal.returns-clause-sensors
returns-clause-sensors c other =
    come_shows _ _ _ _ _ _ _ c.self.invariant (nameless c) c.put-slot.ensures.free (c.put-slot.ensures.puts.changed ∙ ap Some c.new.ensures)
    c.put-slot.ensures.puts.others c.in-Ok.ensures.updates.0 other
    ∙ ap (λ (sensors : LiveSensors). cond (bytes_eq c.args.name other) (Some (sensor_of c.args.setting [])) (sensor_in sensors other)) c.self.view_is

pub returns-clause-slots : goal.returns-clause-slots
returns-clause-slots c other differ =
    other_keeps _ _ c.args.name other _ (c.in-Ok.ensures.updates.0 other) differ
    ∙ ap (λ (sensors : LiveSensors). slot_of sensors other) c.self.view_is
