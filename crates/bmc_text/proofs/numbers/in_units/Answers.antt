use Rattle.std.proofs.Common.{◌*◌, ap, arith}
use Rattle.bmc_text.proofs.Powers.{units_below}
use Rattle.bmc_text.proofs.numbers.in_units.Goals as goal

pub returns-clause-below : goal.returns-clause-below
returns-clause-below c =
    omega (arith, units_below c.args.number c.args.places c.requires.number c.requires.places, ap (λ unit. c.args.number * unit) c.pow.ensures)
