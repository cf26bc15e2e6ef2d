use Rattle.std.proofs.Common.{arith, get_or, Option, ℕ, sym, subst}
use Rattle.fan_zone.specs.declared.rows.FanRow.{FanRow}
use Rattle.fan_zone.specs.RowSteps.{IsCommanded}
use Rattle.fan_zone.specs.Rows.{fan_row}
use Rattle.fan_zone.proofs.Numbers.{numbered_more}
use Rattle.fan_zone.proofs.RowFacts.{fan_written}
use Rattle.fan_zone.proofs.showing.show_fans.Goals as goal

pub loop-fan-preserved : goal.loop-fan-preserved
loop-fan-preserved g c =
    let held = c.args.held.now in
    let bank = c.args.bank.now in
    let plans = c.args.plans.now in
    let rows = c.args.rows.now in
    let fans = c.args.fan_plans.now in
    let row : FanRow = c.index-fans-fan.result in
    let last = c.command_of-last.result in (
      numbered_more (fan_row c.args.strict held bank plans rows fans) c.args.fans.now c.loop-fan.fans c.loop-fan.fan row _ c.loop-fan.invariant.0
          (omega (arith, c.loop-fan.auto.fans, c.loop-fan-test.true))
          (fan_written c.args.strict held bank plans rows fans c.loop-fan.fan _ (get_or c.loop-fan.fans c.loop-fan.fan row) last.duty
          (omega (arith, c.requires.fans, c.loop-fan-test.true)) c.command_of-last.ensures.duty),
      subst (λ (holder : Option ℕ). IsCommanded c.args.strict bank plans rows held holder last.duty.0) (sym c.command_of-last.ensures.holder)
          c.command_of-last.ensures.duty,
    )
