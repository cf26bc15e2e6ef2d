use Rattle.std.proofs.Common.{◌≡◌, drop, string_bytes}
use Rattle.bmc_core.specs.Lists.{board_rows}
use Rattle.bmc_run.proofs.GatheringLemmas.{GathersFront}
use Rattle.bmc_run.proofs.output.push_inventory.Given as goal

abbrev pub invariant-loop-board : goal.invariant-loop-board
invariant-loop-board g l = record {
  rows :
      GathersFront (board_rows l.core.state.senses.watch) (g.K.Sink.seen l.fn.output).taken (g.K.Sink.seen l.output).taken (string_bytes l.fn.text)
      (string_bytes l.text) l.board-items (drop l.board-index l.board-items);
  sink : (g.K.Sink.seen l.output).calls.faults ≡ (g.K.Sink.seen l.fn.output).calls.faults;
}
