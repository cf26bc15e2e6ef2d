use Rattle.std.proofs.Common.{◌≡◌, take}
use Rattle.bmc_watch.specs.Panels.{duties_of}
use Rattle.bmc_watch.proofs.panel.note_duties.Given as goal

abbrev pub invariant-loop-fan : goal.invariant-loop-fan
invariant-loop-fan l = l.duties.items ≡ duties_of (take l.fan-index l.fans)
