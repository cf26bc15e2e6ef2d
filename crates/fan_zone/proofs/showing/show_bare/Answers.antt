use Rattle.std.proofs.Common.{arith, ◌<◌, length, refl, subst, get_or}
use Rattle.std.proofs.lemmas.Option.{same_Some}
use Rattle.bmc_base.specs.declared.milli.Milli.{Milli}
use Rattle.ctl_face.specs.Ranges.{IsMilli}
use Rattle.fan_zone.specs.declared.rows.ZonePlan.{ZonePlan}
use Rattle.fan_zone.specs.declared.rows.ZoneRow.{ZoneRow}
use Rattle.fan_zone.specs.RowSteps.{bare_row}
use Rattle.fan_zone.specs.Sound.{HasSmallRow}
use Rattle.fan_zone.proofs.Numbers.{numbered_more, written_more, written_end}
use Rattle.fan_zone.proofs.RowFacts.{bare_written}
use Rattle.fan_zone.proofs.showing.show_bare.Goals as goal

pub loop-zone-preserved : goal.loop-zone-preserved
loop-zone-preserved c =
    let plans = c.args.plans.now in
    let zone = c.loop-zone.zone in
    let plan : ZonePlan = c.index-plans-zone.result in
    let row : ZoneRow = c.index-rows-zone.result in
    let within : zone < length plans = omega (arith, c.requires.plans, c.loop-zone-test.true) in
    let low : Milli = (get_or plans zone plan).setting.min_thermal in (
      numbered_more (bare_row plans) c.args.rows.now c.loop-zone.rows zone row _ c.loop-zone.invariant.0
          (omega (arith, c.loop-zone.auto.rows, c.loop-zone-test.true))
          (bare_written plans zone plan (get_or c.loop-zone.rows zone row) low within refl),
      written_more HasSmallRow c.loop-zone.rows zone _ c.loop-zone.invariant.1 (omega (arith, c.loop-zone.auto.rows, c.loop-zone-test.true))
          (λ x e. subst (λ (m : Milli). IsMilli m.0) (same_Some low x e) (c.requires.lows zone plan within)),
    )

pub returns-clause-small : goal.returns-clause-small
returns-clause-small c = written_end HasSmallRow c.loop-zone.rows c.loop-zone.zone c.loop-zone.invariant.1
    (omega (arith, c.loop-zone.auto.rows, c.loop-zone-test.false))
