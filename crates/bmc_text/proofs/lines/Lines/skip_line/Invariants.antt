use Rattle.std.proofs.Common.{◌≡◌, ◌-◌, false}
use Rattle.bmc_text.specs.Feeds.{Reads, longest_script}
use Rattle.bmc_text.proofs.LinesLemmas.{AreTooLong}
use Rattle.bmc_text.proofs.lines.Lines.skip_line.Given as goal

-- all that was read of the line is the front of one that is too long
abbrev pub invariant-pieces : goal.invariant-pieces
invariant-pieces g l = record {
  reads : Reads l.fn.self.waiting l.fn.self.read l.self.read (g.S.Source.seen l.fn.source) (g.S.Source.seen l.source) AreTooLong;
  going : l.self.ended ≡ false;
  none : (g.S.Source.seen l.source).calls.faults ≡ (g.S.Source.seen l.fn.source).calls.faults;
}

abbrev pub decreases-pieces : goal.decreases-pieces
decreases-pieces g l = longest_script - l.self.read
