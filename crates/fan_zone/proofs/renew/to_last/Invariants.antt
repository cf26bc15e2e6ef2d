use Rattle.std.proofs.Common.{◌≡◌, ◌-◌, length, take}
use Rattle.fan_zone.specs.Live.{controls, items_of}
use Rattle.fan_zone.proofs.renew.to_last.Given as goal

abbrev pub invariant-loop-behind : goal.invariant-loop-behind
invariant-loop-behind l = controls (items_of (take (length l.live - l.behind) l.live)) ≡ controls (items_of l.live)
