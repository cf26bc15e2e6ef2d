use Rattle.bmc_text.proofs.WordsLemmas.{number-decimal, raw-decimal, units-decimal}
use Rattle.bmc_text.proofs.laws.numbers_are_read_back.Goals as goal

pub returns-clause-number : goal.returns-clause-number
returns-clause-number c = number-decimal

pub returns-clause-raw : goal.returns-clause-raw
returns-clause-raw c = raw-decimal

pub returns-clause-decimal : goal.returns-clause-decimal
returns-clause-decimal c = units-decimal
