use Rattle.std.proofs.Common.{All, subst}
use Rattle.std.proofs.lemmas.List.{take_all}
use Rattle.std.proofs.lemmas.List.Elements.{All-more}
use Rattle.ctl_face.specs.Ranges.{IsValidRow}
use Rattle.ctl_kinds.proofs.tests.check_rows.Goals as goal

pub loop-row-preserved : goal.loop-row-preserved
loop-row-preserved g c =
    All-more IsValidRow c.args.rows.now c.loop-row.row-index _ c.loop-row-test.true c.loop-row.invariant (c.check.ensures, c.check-in-loop-row.ensures)

pub returns : goal.returns
returns g c = subst (All IsValidRow) (take_all c.loop-row.row-index c.args.rows.now c.loop-row-test.false) c.loop-row.invariant
