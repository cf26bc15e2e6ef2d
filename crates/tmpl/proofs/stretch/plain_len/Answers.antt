-- The next dollar, or the end.
use Rattle.std.proofs.Common.{arith, drop, length-drop}
use Rattle.tmpl.proofs.OperationsLemmas.{tail_is}
use Rattle.tmpl.proofs.PiecesLemmas.{dollar_found, dollar_missing}
use Rattle.tmpl.proofs.stretch.plain_len.Goals as goal

pub returns-in-Some-clause-exact : goal.returns-in-Some-clause-exact
returns-in-Some-clause-exact c =
    let tail = tail_is 1 c.args.text.now in
    omega (arith, dollar_found (drop 1 c.args.text.now) c.in-Some.at (rw tail at c.in-Some.ensures.exact))

pub returns-in-None-clause-exact : goal.returns-in-None-clause-exact
returns-in-None-clause-exact c =
    let tail = tail_is 1 c.args.text.now in
    omega (arith, c.requires, dollar_missing (drop 1 c.args.text.now) (rw tail at c.in-None.ensures.exact), length-drop 1 c.args.text.now)
