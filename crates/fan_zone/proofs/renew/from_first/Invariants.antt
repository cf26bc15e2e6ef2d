use Rattle.std.proofs.Common.{◌≡◌, drop}
use Rattle.fan_zone.specs.Live.{controls, items_of}
use Rattle.fan_zone.proofs.renew.from_first.Given as goal

abbrev pub invariant-loop-at : goal.invariant-loop-at
invariant-loop-at l = controls (items_of (drop l.at l.live)) ≡ controls (items_of l.live)
