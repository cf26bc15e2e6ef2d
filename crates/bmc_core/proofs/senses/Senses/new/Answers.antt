use Rattle.std.proofs.Common.{refl}
use Rattle.bmc_core.proofs.NotesLemmas.{stands_new}
use Rattle.bmc_core.proofs.senses.Senses.new.Goals as goal

pub returns : goal.returns
returns g c = stands_new _ c.in_ok-watch.ensures c.in_ok-sensors.ensures.none refl
