use Rattle.std.proofs.Common.{take}
use Rattle.bmc_core.specs.Logging.{Logs}
use Rattle.bmc_core.proofs.logging.note_changes.Given as goal

abbrev pub invariant-loop-change : goal.invariant-loop-change
invariant-loop-change l = Logs l.fn.log l.tick (take l.change-index l.changes) l.log
