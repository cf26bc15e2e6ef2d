use Rattle.bmc_machine.proofs.IndexLemmas.{index_stays, same_index, kept_had, kept_next}
use Rattle.bmc_machine.proofs.indexes.indexes_are_kept.Goals as goal

pub returns : goal.returns
returns c = record { stays = index_stays; own = same_index; all = kept_had; next = kept_next }
