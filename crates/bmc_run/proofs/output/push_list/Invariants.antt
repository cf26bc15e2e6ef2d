use Rattle.std.proofs.Common.{◌≡◌, string_bytes, length}
use Rattle.bmc_core.specs.Lists.{entry_row}
use Rattle.bmc_run.proofs.GatheringLemmas.{GathersFront}
use Rattle.bmc_run.proofs.output.push_list.Given as goal

abbrev pub invariant-loop-entry : goal.invariant-loop-entry
invariant-loop-entry g l = record {
  rows :
      GathersFront entry_row (g.K.Sink.seen l.fn.output).taken (g.K.Sink.seen l.output).taken (string_bytes l.fn.text) (string_bytes l.text)
      l.fn.entries l.entries;
  sink : (g.K.Sink.seen l.output).calls.faults ≡ (g.K.Sink.seen l.fn.output).calls.faults;
}

abbrev pub decreases-loop-entry : goal.decreases-loop-entry
decreases-loop-entry g l = length l.entries
