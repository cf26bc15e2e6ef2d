use Rattle.std.proofs.Common.{◌≡◌, string_bytes}
use Rattle.bmc_run.proofs.TicksLemmas.{TicksFront}
use Rattle.bmc_run.proofs.output.push_ticks.Given as goal

abbrev pub invariant-loop : goal.invariant-loop
invariant-loop g l = record {
  rows :
      TicksFront l.count l.counter l.fn.core l.core (g.K.Sink.seen l.fn.output).taken (g.K.Sink.seen l.output).taken (string_bytes l.fn.text)
      (string_bytes l.text);
  sink : (g.K.Sink.seen l.output).calls.faults ≡ (g.K.Sink.seen l.fn.output).calls.faults;
}
