use Rattle.std.specs.Vec.{vec_capacity}
use Rattle.fan_zone.specs.Live.{zones}
use Rattle.fan_zone.specs.SetRows.{plan_of, zone_row_of}
use Rattle.fan_zone.proofs.Renewing.{Renewing}
use Rattle.fan_zone.proofs.renew.add_zones.Given as goal

abbrev pub invariant-loop-item : goal.invariant-loop-item
invariant-loop-item l =
    Renewing zones plan_of l.live l.fn.next_plans.items l.next_plans.items (vec_capacity l.fn.next_plans) (vec_capacity l.next_plans) l.item-index
    × Renewing zones (zone_row_of l.plans l.rows) l.live l.fn.next_rows.items l.next_rows.items (vec_capacity l.fn.next_rows) (vec_capacity l.next_rows)
    l.item-index
