use Rattle.std.proofs.Common.{[], Some, None, false, sym, ap, ◌∙◌}
use Rattle.fan_zone.specs.declared.rows.ZonePlan.{ZonePlan}
use Rattle.fan_zone.specs.declared.rows.ZoneRow.{ZoneRow}
use Rattle.fan_zone.proofs.FindRows.{find_zone_more, find_zone_at}
use Rattle.fan_zone.proofs.renew.find_zone.Goals as goal

pub loop-number-preserved : goal.loop-number-preserved
loop-number-preserved c =
    let row : ZoneRow = record { name = []; failsafe = false; setpoint = None } in
    find_zone_more c.args.id.now c.args.plans.now c.args.rows.now c.loop-number.number _ row c.loop-number-test.true c.requires.same
    (sym c.same_id-in-loop-number.ensures ∙ c.if-same_id-2.false) ∙ c.loop-number.invariant

pub returns-then-same_id : goal.returns-then-same_id
returns-then-same_id c =
    let plans = c.args.plans.now in
    let plan : ZonePlan = c.index-plans-at.result in
    let row : ZoneRow = c.index-rows-at.result in
    let same = sym c.same_id.ensures ∙ c.if-same_id.true in
    let found = find_zone_at c.args.id.now plans c.args.rows.now c.args.cursor.now plan row c.requires.ids c.if-at-plans.true c.requires.same same in
    ap Some c.index-rows-at.is ∙ sym found
