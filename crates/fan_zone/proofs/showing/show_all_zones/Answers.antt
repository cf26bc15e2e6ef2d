use Rattle.std.proofs.Common.{arith, ◌<◌, length, subst, sym}
use Rattle.fan_zone.specs.declared.rows.ZoneRow.{ZoneRow}
use Rattle.fan_zone.specs.declared.held.Held.{Held}
use Rattle.fan_zone.proofs.Shown.{shown_start, shown_more, shown_end}
use Rattle.fan_zone.proofs.showing.show_all_zones.Goals as goal

pub loop-one-init : goal.loop-one-init
loop-one-init g c =
    shown_start c.args.sensors.now.slots c.args.now c.args.plans.now c.args.held.now c.args.bank.now c.args.rows.now c.show_bare.new.rows
    c.show_bare.ensures.rows c.show_bare.ensures.small

pub loop-one-preserved : goal.loop-one-preserved
loop-one-preserved g c =
    let one : Held = c.one-item.result in
    let row : ZoneRow = c.index-rows-one.result in
    shown_more c.args.sensors.now.slots c.args.now c.args.plans.now c.args.held.now c.args.bank.now c.args.rows.now c.loop-one.rows c.loop-one.one-index
    one row c.show_held.new.row c.loop-one.invariant c.loop-one-test.true c.one-item.is
    (subst (λ (h : Held). h.zone < length c.loop-one.rows) (sym c.one-item.is)
    (omega (arith, c.requires.zones c.loop-one.one-index one c.loop-one-test.true, c.loop-one.auto.rows, c.show_bare.auto.rows)))
    c.show_held.ensures.row c.show_held.ensures.small

pub returns-clause-rows : goal.returns-clause-rows
returns-clause-rows g c =
    shown_end c.args.sensors.now.slots c.args.now c.args.plans.now c.args.held.now c.args.bank.now c.args.rows.now c.loop-one.rows c.loop-one.one-index
    c.loop-one.invariant (omega (arith, c.loop-one-test.false))
