use Rattle.bmc_machine.proofs.ItemLemmas.{boards_by_key, items_by_id, ids_differ}
use Rattle.bmc_machine.proofs.NameLemmas.{live_names_differ}
use Rattle.bmc_machine.proofs.items.items_differ.Goals as goal

pub returns : goal.returns
returns c = record { boards = boards_by_key; items = items_by_id; ids = ids_differ; names = live_names_differ }
