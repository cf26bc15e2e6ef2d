use Rattle.std.proofs.Common.{◌≡◌, take}
use Rattle.fan_zone.specs.Live.{items_of}
use Rattle.fan_zone.proofs.tests.references.Given as goal

abbrev pub invariant-loop-item : goal.invariant-loop-item
invariant-loop-item l = items_of l.live.items ≡ take l.item-index l.items
