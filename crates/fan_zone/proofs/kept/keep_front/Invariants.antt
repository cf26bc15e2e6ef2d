use Rattle.std.proofs.Common.{take}
use Rattle.fan_zone.specs.Kept.{KeepsFront}
use Rattle.fan_zone.specs.Live.{controls, fans, items_of}
use Rattle.fan_zone.proofs.kept.keep_front.Given as goal

abbrev pub invariant-loop-items : goal.invariant-loop-items
invariant-loop-items l =
    KeepsFront (controls (items_of l.controllers)) (fans (items_of (take l.items l.live))) l.fans l.fn.plans l.fn.rows l.plans l.rows
