use Rattle.std.proofs.Common.{◌≡◌, ◌-◌, false}
use Rattle.bmc_text.specs.Feeds.{Reads, longest_script}
use Rattle.bmc_text.specs.Newlines.{HasNoNewline}
use Rattle.bmc_text.proofs.lines.Lines.read_line.Given as goal

-- all that was read waits, and no line is whole in it
abbrev pub invariant-pieces : goal.invariant-pieces
invariant-pieces g l = record {
  reads : Reads l.fn.self.waiting l.fn.self.read l.self.read (g.S.Source.seen l.fn.source) (g.S.Source.seen l.source) (λ bytes. bytes ≡ l.self.waiting);
  none : HasNoNewline l.self.waiting;
  going : l.self.ended ≡ false;
  no_fault : (g.S.Source.seen l.source).calls.faults ≡ (g.S.Source.seen l.fn.source).calls.faults;
}

abbrev pub decreases-pieces : goal.decreases-pieces
decreases-pieces g l = longest_script - l.self.read
