use Rattle.std.proofs.Common.{◌≡◌, ◌-◌, ◌<◌, length, false}
use Rattle.bmc_text.specs.Feeds.{Reads, longest_script}
use Rattle.bmc_text.proofs.BlocksLemmas.{AreOfBlock}
use Rattle.bmc_text.proofs.lines.Lines.read_block.Given as goal

-- all that was read was taken or waits, and belongs to the block
abbrev pub invariant-pieces : goal.invariant-pieces
invariant-pieces g l = record {
  reads : Reads l.fn.self.waiting l.fn.self.read l.self.read (g.S.Source.seen l.fn.source) (g.S.Source.seen l.source) (AreOfBlock l.part l.self.waiting);
  size : l.part.size ≡ l.fn.part.size;
  going : l.self.ended ≡ false;
  waits : l.part.size < length l.fn.self.waiting → l.self.read ≡ l.fn.self.read;
  none : (g.S.Source.seen l.source).calls.faults ≡ (g.S.Source.seen l.fn.source).calls.faults;
}

abbrev pub decreases-pieces : goal.decreases-pieces
decreases-pieces g l = longest_script - l.self.read
