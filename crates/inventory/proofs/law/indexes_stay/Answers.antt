use Rattle.inventory.proofs.IndexesLemmas.{each_index_stays}
use Rattle.inventory.proofs.law.indexes_stay.Goals as goal

pub returns : goal.returns
returns c = each_index_stays
