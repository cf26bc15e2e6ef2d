use Rattle.std.proofs.Common.{length}
use Rattle.fru_area.specs.Readings.{checked}
use Rattle.fru_area.specs.Walks.{raw_fields}
use Rattle.fru_area.proofs.WalksLemmas.{GoesOn}
use Rattle.fru_area.proofs.area.check_fields.Given as goal

-- what a check of the rest answers is what one of all does
abbrev pub invariant-loop-raw : goal.invariant-loop-raw
invariant-loop-raw l = GoesOn l.area l.rest checked (checked (raw_fields l.area l.bytes l.start))

abbrev pub decreases-loop-raw : goal.decreases-loop-raw
decreases-loop-raw l = length l.rest
