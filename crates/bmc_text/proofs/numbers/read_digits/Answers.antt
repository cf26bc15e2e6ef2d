use Rattle.std.proofs.Common.{◌<◌, ◌^◌, arith}
use Rattle.bmc_text.proofs.Powers.{below_power}
use Rattle.bmc_text.proofs.numbers.read_digits.Goals as goal

pub overflow_mul-value : goal.overflow_mul-value
overflow_mul-value c =
    let below : c.loop-digit.value < 10 ^ 17 =
    below_power c.loop-digit.value c.loop-digit.digit-index 17 c.loop-digit.invariant.below (omega (arith, c.if-text-longest.false)) in
    omega (arith, below)

pub overflow_add-value : goal.overflow_add-value
overflow_add-value c =
    let below : c.loop-digit.value < 10 ^ 17 =
    below_power c.loop-digit.value c.loop-digit.digit-index 17 c.loop-digit.invariant.below (omega (arith, c.if-text-longest.false)) in
    omega (arith, below, c.from.ensures)

pub returns-clause-below : goal.returns-clause-below
returns-clause-below c =
    below_power c.loop-digit.value c.loop-digit.digit-index c.args.longest c.loop-digit.invariant.below (omega (arith, c.if-text-longest.false))
