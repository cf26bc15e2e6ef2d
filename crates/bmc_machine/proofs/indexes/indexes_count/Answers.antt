use Rattle.bmc_machine.proofs.MeetingLemmas.{index_counts, kept_differ}
use Rattle.bmc_machine.proofs.indexes.indexes_count.Goals as goal

pub returns : goal.returns
returns c = record { counts = index_counts; once = kept_differ }
