use Rattle.fan_zone.specs.RowSteps.{bare_row}
use Rattle.fan_zone.specs.Sound.{HasSmallRow}
use Rattle.fan_zone.proofs.Numbers.{Numbered, Written}
use Rattle.fan_zone.proofs.showing.show_bare.Given as goal

abbrev pub invariant-loop-zone : goal.invariant-loop-zone
invariant-loop-zone l = Numbered (bare_row l.plans) l.fn.rows l.rows l.zone × Written HasSmallRow l.rows l.zone
