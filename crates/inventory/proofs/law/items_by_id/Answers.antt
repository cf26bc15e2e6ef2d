use Rattle.inventory.proofs.IdsLemmas.{items_ascend, items_differ, live_ascend}
use Rattle.inventory.proofs.law.items_by_id.Goals as goal

pub returns-clause-ascend : goal.returns-clause-ascend
returns-clause-ascend c = items_ascend

pub returns-clause-differ : goal.returns-clause-differ
returns-clause-differ c = items_differ

pub returns-clause-live : goal.returns-clause-live
returns-clause-live c = live_ascend
