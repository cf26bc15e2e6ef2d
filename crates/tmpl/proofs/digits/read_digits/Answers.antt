-- A number of so many digits is below the power of ten.
use Rattle.std.proofs.Common.{◌<◌, ◌^◌, arith}
use Rattle.tmpl.proofs.OperationsLemmas.{below_power}
use Rattle.tmpl.proofs.digits.read_digits.Goals as goal

pub overflow_mul-value : goal.overflow_mul-value
overflow_mul-value c =
    let below : c.loop-digit.value < 10 ^ 10 =
    below_power c.loop-digit.value c.loop-digit.digit-index 10 c.loop-digit.invariant.below (omega (arith, c.if-text-most.false)) in
    omega (arith, below)

pub overflow_add-value : goal.overflow_add-value
overflow_add-value c =
    let below : c.loop-digit.value < 10 ^ 10 =
    below_power c.loop-digit.value c.loop-digit.digit-index 10 c.loop-digit.invariant.below (omega (arith, c.if-text-most.false)) in
    omega (arith, below, c.from.ensures)

pub returns-clause-below : goal.returns-clause-below
returns-clause-below c =
    below_power c.loop-digit.value c.loop-digit.digit-index c.args.most c.loop-digit.invariant.below (omega (arith, c.if-text-most.false))
