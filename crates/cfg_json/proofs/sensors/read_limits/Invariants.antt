-- The limits so far, and those of the elements that are left, are all limits; the other slots are unused.
use Rattle.std.proofs.Common.{◌≡◌, drop, map, take}
use Rattle.serde_json.specs.View.{view}
use Rattle.cfg_json.specs.Values.{each}
use Rattle.cfg_json.specs.Sensors.{limit_of, eight_limits}
use Rattle.cfg_json.proofs.SensorsLemmas.{slots_in, with_rest}
use Rattle.cfg_json.proofs.sensors.read_limits.Given as goal

abbrev pub invariant-loop-i : goal.invariant-loop-i
invariant-loop-i l = record {
  rest : with_rest l.i l.limits (each limit_of (map view (drop l.i l.items))) ≡ slots_in (each limit_of (map view l.items));
  unused : l.limits ≡ eight_limits (take l.i l.limits);
}
