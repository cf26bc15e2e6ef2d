use Rattle.std.proofs.Common.{arith}
use Rattle.fru_area.proofs.NamesLemmas.{no_fixed}
use Rattle.fru_area.proofs.name.read_fixed.Goals as goal

pub returns-clause-none : goal.returns-clause-none
returns-clause-none c = no_fixed c.args.text.now c.loop-name.name-index (omega (arith, c.loop-name-test.false)) c.loop-name.invariant
