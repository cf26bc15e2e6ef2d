use Rattle.std.proofs.Common.{◌∙◌, bytes_eq, cond, None, sym, ap}
use Rattle.live_sensors.specs.Sensors.{LiveSensors, sensor_in, slot_of}
use Rattle.live_sensors.proofs.SlotsLemmas.{gone_shows, gone_tied, other_keeps}
use Rattle.live_sensors.proofs.sensors.LiveSensors.forget.Goals as goal

pub take-requires : goal.take-requires
take-requires c = c.self.invariant.filled c.args.name.now c.in-Some.slot (sym c.in-Some.ensures.value)

pub invariant_of-self : goal.invariant_of-self
invariant_of-self c =
    gone_tied _ _ _ _ _ _ c.self.invariant (sym c.in-Some.ensures.value) c.take.ensures.puts.changed c.take.ensures.puts.others
    c.in-Some.ensures.updates.0

pub returns-in-Some-clause-sensors : goal.returns-in-Some-clause-sensors
returns-in-Some-clause-sensors c other =
    gone_shows _ _ _ _ _ _ c.self.invariant (sym c.in-Some.ensures.value) c.take.ensures.puts.changed c.take.ensures.puts.others
    c.in-Some.ensures.updates.0 other
    ∙ ap (λ (sensors : LiveSensors). cond (bytes_eq c.args.name.now other) None (sensor_in sensors other)) c.self.view_is

pub returns-in-Some-clause-slots : goal.returns-in-Some-clause-slots
returns-in-Some-clause-slots c other differ =
    other_keeps _ _ c.args.name.now other None (c.in-Some.ensures.updates.0 other) differ
    ∙ ap (λ (sensors : LiveSensors). slot_of sensors other) c.self.view_is
