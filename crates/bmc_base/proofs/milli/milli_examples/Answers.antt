-- The texts compute, digits included.
use Rattle.std.proofs.Common.{refl}
use Rattle.std.specs.Fmt.{digits}
use Rattle.bmc_base.proofs.milli.milli_examples.Goals as goal

pub returns-clause-none : goal.returns-clause-none
unfolding digits
returns-clause-none c = refl

pub returns-clause-five : goal.returns-clause-five
unfolding digits
returns-clause-five c = refl

pub returns-clause-minus_five : goal.returns-clause-minus_five
unfolding digits
returns-clause-minus_five c = refl

pub returns-clause-one : goal.returns-clause-one
unfolding digits
returns-clause-one c = refl

pub returns-clause-minus_twelve : goal.returns-clause-minus_twelve
unfolding digits
returns-clause-minus_twelve c = refl

pub returns-clause-lowest : goal.returns-clause-lowest
unfolding digits
returns-clause-lowest c = refl
