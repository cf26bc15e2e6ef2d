use Rattle.std.proofs.Common.{◌≡◌, false}
use Rattle.std.specs.Prelude.{◌↔◌}
use Rattle.sensor_core.proofs.AlarmsLemmas.{mixed}
use Rattle.sensor_core.proofs.sensor.update_alarms.Given as goal

abbrev pub invariant-loop-n : goal.invariant-loop-n
invariant-loop-n l = (l.alarms ≡ mixed l.limits l.fn.alarms l.value l.n) × (l.switched ≡ false ↔ l.alarms ≡ l.fn.alarms)
