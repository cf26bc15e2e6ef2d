use Rattle.inventory.proofs.IndexesLemmas.{keeps_new}
use Rattle.inventory.proofs.law.new_boards_last.Goals as goal

pub returns : goal.returns
returns c = keeps_new
