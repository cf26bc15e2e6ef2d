use Rattle.std.specs.Vec.{vec_capacity}
use Rattle.fan_zone.specs.Live.{controls, fans, items_of}
use Rattle.fan_zone.specs.SetRows.{fan_plan_of, fan_row_of}
use Rattle.fan_zone.proofs.Renewing.{Renewing}
use Rattle.fan_zone.proofs.renew.add_fans.Given as goal

abbrev pub invariant-loop-item : goal.invariant-loop-item
invariant-loop-item l =
    Renewing fans (fan_plan_of (controls (items_of l.controllers))) l.live l.fn.next_plans.items l.next_plans.items (vec_capacity l.fn.next_plans)
    (vec_capacity l.next_plans) l.item-index
    × Renewing fans (fan_row_of l.plans l.rows) l.live l.fn.next_rows.items l.next_rows.items (vec_capacity l.fn.next_rows) (vec_capacity l.next_rows)
    l.item-index
