use Rattle.std.proofs.Common.{◌∙◌, arith}
use Rattle.fan_zone.specs.Ticks.{aged}
use Rattle.fan_zone.proofs.Numbers.{numbered_end, numbered_map}
use Rattle.fan_zone.proofs.showing.grow_ages.Goals as goal

pub returns : goal.returns
returns c = numbered_end (λ m. aged) c.args.held.now c.loop-number.held c.loop-number.number c.loop-number.invariant
    (omega (arith, c.loop-number-test.false)) ∙ numbered_map aged 0 c.args.held.now
