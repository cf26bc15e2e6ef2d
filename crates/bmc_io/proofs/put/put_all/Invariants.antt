use Rattle.std.proofs.Common.{length, ◌-◌, take, ◌≡◌, ◌≤◌}
use Rattle.bmc_io.specs.Told.{added}
use Rattle.bmc_io.proofs.put.put_all.Given as goal

abbrev pub invariant-loop-done : goal.invariant-loop-done
invariant-loop-done g l = record {
  within : l.done ≤ length l.bytes;
  taken : (g.K.Sink.seen l.sink).taken ≡ added (g.K.Sink.seen l.fn.sink).taken (take l.done l.bytes);
  faults : (g.K.Sink.seen l.sink).calls.faults ≡ (g.K.Sink.seen l.fn.sink).calls.faults;
}

abbrev pub decreases-loop-done : goal.decreases-loop-done
decreases-loop-done g l = length l.bytes - l.done
