use Rattle.inventory.proofs.HoldersLemmas.{names_differ}
use Rattle.inventory.proofs.law.names_are_held_once.Goals as goal

pub returns : goal.returns
returns c = names_differ
