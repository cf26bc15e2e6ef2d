use Rattle.std.proofs.Common.{All, take}
use Rattle.ctl_face.specs.Ranges.{IsValidRow}
use Rattle.ctl_kinds.proofs.tests.check_rows.Given as goal

-- the rows so far are valid
abbrev pub invariant-loop-row : goal.invariant-loop-row
invariant-loop-row g l = All IsValidRow (take l.row-index l.rows)
