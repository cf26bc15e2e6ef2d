use Rattle.inventory.proofs.BoardsLemmas.{boards_ascend}
use Rattle.inventory.proofs.law.boards_by_place.Goals as goal

pub returns : goal.returns
returns c = boards_ascend
