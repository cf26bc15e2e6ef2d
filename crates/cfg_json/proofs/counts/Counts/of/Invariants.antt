-- The exposes so far are counted.
use Rattle.std.proofs.Common.{◌≡◌, ◌≤◌, take}
use Rattle.cfg_json.specs.Configs.{counts_of}
use Rattle.cfg_json.proofs.counts.Counts.of.Given as goal

abbrev pub invariant-loop-expose : goal.invariant-loop-expose
invariant-loop-expose l = record {
  counted : l.counts ≡ counts_of (take l.expose-index l.exposes);
  sensors : l.counts.sensors ≤ l.expose-index;
  zones : l.counts.zones ≤ l.expose-index;
  fans : l.counts.fans ≤ l.expose-index;
  pids : l.counts.pids ≤ l.expose-index;
  steps : l.counts.steps ≤ l.expose-index;
}
