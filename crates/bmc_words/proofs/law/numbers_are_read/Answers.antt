use Rattle.bmc_words.proofs.NumbersLemmas.{caps_read, samples_read}
use Rattle.bmc_words.proofs.law.numbers_are_read.Goals as goal

pub returns-clause-log_cap : goal.returns-clause-log_cap
returns-clause-log_cap c = caps_read

pub returns-clause-sample : goal.returns-clause-sample
returns-clause-sample c = samples_read
