use Rattle.std.proofs.Common.{◌≡◌, ◌+◌, ◌-◌, ◌<◌, ◌∷◌, ℕ, length, drop, sym, ap, ◌∙◌, subst, arith, set}
use Rattle.fan_zone.specs.Live.{controls, fans, items_of}
use Rattle.fan_zone.specs.Kept.{KeepsBack}
use Rattle.fan_zone.proofs.KeptFans.{fan_before, fan_of, back_more, back_same, other_before}
use Rattle.fan_zone.proofs.kept.keep_back.Goals as goal
use Rattle.fan_zone.proofs.kept.keep_back.Goals.{then-is_fan+else-fans-eq0+else-not-keep_fan, else-is_fan}

pub loop-behind-preserved : goal.loop-behind-preserved
loop-behind-preserved c =
    let live = c.args.live.now in
    let item = c.index-live-items.result in
    let cs = controls (items_of c.args.controllers.now) in
    let n = length live - c.loop-behind.behind - 1 in
    let within : n < length live = omega (arith, c.loop-behind-test.true) in
    let next : n + 1 ≡ length live - c.loop-behind.behind = omega (arith, c.loop-behind-test.true) in
    let left : length live - (c.loop-behind.behind + 1) ≡ n = omega arith in
    let from = λ (m : ℕ). fans (items_of (drop m live)) in
    let more = from (length live - (c.loop-behind.behind + 1)) in
    elim c.if-is_fan.branch [
      | then-is_fan+else-fans-eq0+else-not-keep_fan w ↦
          subst (λ (m : ℕ). KeepsBack cs more m c.args.plans.now c.args.rows.now c.if-is_fan.plans c.if-is_fan.rows)
          (sym w.fans-is) (back_more cs (from (length live - c.loop-behind.behind)) more (fan_of item.now)
          (c.loop-behind.fans - 1) c.loop-behind.fans c.args.plans.now c.loop-behind.plans c.if-is_fan.plans c.args.rows.now c.loop-behind.rows c.if-is_fan.rows
          w.index-plans-fans.result w.index-rows-fans.result c.loop-behind.invariant (omega (arith, w.if-fans-eq0.false))
          (ap from left ∙ (fan_before live n item within c.index-live-items.is (sym w.if-is_fan.ensures) ∙ ap (λ (m : ℕ). fan_of item.now ∷ from m) next))
          c.requires.same c.requires.ids (sym w.if-not-keep_fan.ensures.stays)
          (w.plans-is ∙ ap (set c.loop-behind.plans (c.loop-behind.fans - 1)) w.if-not-keep_fan.ensures.plan)
          (w.rows-is ∙ ap (set c.loop-behind.rows (c.loop-behind.fans - 1)) w.if-not-keep_fan.ensures.row))
      | else-is_fan w ↦
          back_same cs (from (length live - c.loop-behind.behind)) _ c.loop-behind.fans c.if-is_fan.fans c.args.plans.now c.loop-behind.plans c.if-is_fan.plans
          c.args.rows.now c.loop-behind.rows c.if-is_fan.rows c.loop-behind.invariant w.fans-is
          (ap from left ∙ (other_before live n item within c.index-live-items.is (sym w.if-is_fan.ensures) ∙ ap from next)) w.plans-is w.rows-is
    ]
