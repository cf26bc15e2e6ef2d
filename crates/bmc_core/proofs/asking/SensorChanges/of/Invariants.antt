use Rattle.std.proofs.Common.{take}
use Rattle.bmc_core.specs.Acting.{AreNoted}
use Rattle.bmc_core.proofs.asking.SensorChanges.of.Given as goal

abbrev pub invariant-loop-change : goal.invariant-loop-change
invariant-loop-change l = AreNoted l.lengths (take l.change-index l.changes)
