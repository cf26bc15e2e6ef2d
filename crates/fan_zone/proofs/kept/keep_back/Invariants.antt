use Rattle.std.proofs.Common.{◌-◌, length, drop}
use Rattle.fan_zone.specs.Kept.{KeepsBack}
use Rattle.fan_zone.specs.Live.{controls, fans, items_of}
use Rattle.fan_zone.proofs.kept.keep_back.Given as goal

abbrev pub invariant-loop-behind : goal.invariant-loop-behind
invariant-loop-behind l =
    KeepsBack (controls (items_of l.controllers)) (fans (items_of (drop (length l.live - l.behind) l.live))) l.fans l.fn.plans l.fn.rows l.plans l.rows
