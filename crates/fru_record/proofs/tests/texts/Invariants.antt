use Rattle.std.proofs.Common.{◌≡◌, length}
use Rattle.fru_record.proofs.tests.texts.Given as goal

abbrev pub invariant-loop-text : goal.invariant-loop-text
invariant-loop-text l = length l.texts ≡ l.text-index
