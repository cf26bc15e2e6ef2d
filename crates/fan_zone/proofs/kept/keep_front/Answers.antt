use Rattle.std.proofs.Common.{sym, ap, ◌∙◌, arith, set}
use Rattle.fan_zone.specs.Live.{controls, items_of}
use Rattle.fan_zone.proofs.KeptFans.{fan_behind, fan_of, front_more, front_same, other_behind}
use Rattle.fan_zone.proofs.kept.keep_front.Goals as goal
use Rattle.fan_zone.proofs.kept.keep_front.Goals.{then-is_fan+else-fans-plans+else-not-keep_fan, else-is_fan}

pub loop-items-preserved : goal.loop-items-preserved
loop-items-preserved c =
    let live = c.args.live.now in
    let item = c.index-live-items.result in
    let cs = controls (items_of c.args.controllers.now) in
    elim c.if-is_fan.branch [
      | then-is_fan+else-fans-plans+else-not-keep_fan w ↦
          front_more cs _ _ (fan_of item.now) c.loop-items.fans c.if-is_fan.fans c.args.plans.now c.loop-items.plans c.if-is_fan.plans
          c.args.rows.now c.loop-items.rows c.if-is_fan.rows w.index-plans-fans.result w.index-rows-fans.result c.loop-items.invariant w.fans-is
          (fan_behind live c.loop-items.items item c.loop-items-test.true c.index-live-items.is (sym w.if-is_fan.ensures)) c.requires.same c.requires.ids
          (omega (arith, w.if-fans-plans.false, c.loop-items.invariant.few, c.loop-items.auto.plans)) (sym w.if-not-keep_fan.ensures.stays)
          (w.plans-is ∙ ap (set c.loop-items.plans c.loop-items.fans) w.if-not-keep_fan.ensures.plan)
          (w.rows-is ∙ ap (set c.loop-items.rows c.loop-items.fans) w.if-not-keep_fan.ensures.row)
      | else-is_fan w ↦
          front_same cs _ _ c.loop-items.fans c.if-is_fan.fans c.args.plans.now c.loop-items.plans c.if-is_fan.plans c.args.rows.now c.loop-items.rows
          c.if-is_fan.rows c.loop-items.invariant w.fans-is
          (other_behind live c.loop-items.items item c.loop-items-test.true c.index-live-items.is (sym w.if-is_fan.ensures)) w.plans-is w.rows-is
    ]
