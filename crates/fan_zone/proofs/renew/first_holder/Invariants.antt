use Rattle.std.proofs.Common.{◌≡◌, ◌≤◌, drop}
use Rattle.fan_zone.specs.Live.{controls, items_of}
use Rattle.fan_zone.specs.SetRows.{first_from}
use Rattle.fan_zone.proofs.renew.first_holder.Given as goal

abbrev pub invariant-loop-item : goal.invariant-loop-item
invariant-loop-item l =
    (first_from l.number l.name (controls (items_of (drop l.item-index l.live))) ≡ first_from 0 l.name (controls (items_of l.live))) × (l.number ≤ l.item-index)
