use Rattle.bmc_text.proofs.ItemsLemmas.{whole_items-first, whole_items-all}
use Rattle.bmc_text.proofs.laws.whole_items_stay.Goals as goal

pub returns-clause-first : goal.returns-clause-first
returns-clause-first c = whole_items-first

pub returns-clause-all : goal.returns-clause-all
returns-clause-all c = whole_items-all
