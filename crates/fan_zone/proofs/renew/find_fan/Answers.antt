use Rattle.std.proofs.Common.{[], Some, None, sym, ap, ◌∙◌}
use Rattle.fan_zone.specs.declared.rows.FanPlan.{FanPlan}
use Rattle.fan_zone.specs.declared.rows.FanRow.{FanRow}
use Rattle.fan_zone.proofs.FindRows.{find_fan_more, find_fan_at}
use Rattle.fan_zone.proofs.renew.find_fan.Goals as goal

pub loop-number-preserved : goal.loop-number-preserved
loop-number-preserved c =
    let row : FanRow = record { name = []; duty = None } in
    find_fan_more c.args.id.now c.args.plans.now c.args.rows.now c.loop-number.number _ row c.loop-number-test.true c.requires.same
    (sym c.same_id-in-loop-number.ensures ∙ c.if-same_id-2.false) ∙ c.loop-number.invariant

pub returns-then-same_id : goal.returns-then-same_id
returns-then-same_id c =
    let plans = c.args.plans.now in
    let plan : FanPlan = c.index-plans-at.result in
    let row : FanRow = c.index-rows-at.result in
    let same = sym c.same_id.ensures ∙ c.if-same_id.true in
    let found = find_fan_at c.args.id.now plans c.args.rows.now c.args.cursor.now plan row c.requires.ids c.if-at-plans.true c.requires.same same in
    ap Some c.index-rows-at.is ∙ sym found
