use Rattle.inventory.proofs.IdsLemmas.{board_list_ascends}
use Rattle.inventory.proofs.law.boards_list_ascends.Goals as goal

pub returns : goal.returns
returns c = board_list_ascends
