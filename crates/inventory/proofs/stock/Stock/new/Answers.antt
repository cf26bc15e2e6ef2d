use Rattle.inventory.proofs.SoundLemmas.{none_sound}
use Rattle.inventory.proofs.stock.Stock.new.Goals as goal

pub invariant_of-result : goal.invariant_of-result
invariant_of-result c = none_sound c.new.result c.new-2.result c.none.result.over.entries c.new.ensures.items c.new-2.ensures.empty
