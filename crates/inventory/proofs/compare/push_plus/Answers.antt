use Rattle.std.proofs.Common.{[], refl}
use Rattle.inventory.proofs.MergeLemmas.{none_ascend}
use Rattle.inventory.proofs.compare.push_plus.Goals as goal

pub push_left-requires-clause-there : goal.push_left-requires-clause-there
push_left-requires-clause-there g c = none_ascend [] refl
