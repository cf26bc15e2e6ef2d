use Rattle.std.proofs.Common.{◌≡◌, ◌+◌, ◌-◌, ◌≤◌, length, false}
use Rattle.bmc_text.specs.Feeds.{longest_script}
use Rattle.bmc_run.specs.Outside.{outside}
use Rattle.bmc_run.specs.Progress.{ComesOn}
use Rattle.bmc_run.specs.declared.run.Pending.TheVariants.{Nothing}
use Rattle.bmc_run.proofs.running.take_all.Given as goal

abbrev pub invariant-items : goal.invariant-items
invariant-items g l = record {
  comes :
      ComesOn (outside (g.S.Source.seen l.fn.input) (g.K.Sink.seen l.fn.output)) (outside (g.S.Source.seen l.input) (g.K.Sink.seen l.output))
      (g.M.PatternMaker.seen l.fn.maker) (g.M.PatternMaker.seen l.maker) l.fn.items l.items l.fn.run l.run;
  goes_on : l.items.ended ≡ false;
  none : l.run.pending ≡ Nothing;
  number : l.run.number + length l.items.waiting ≤ l.items.read + 1;
  limit : l.items.read ≤ longest_script;
  source : (g.S.Source.seen l.input).calls.faults ≡ (g.S.Source.seen l.fn.input).calls.faults;
  sink : (g.K.Sink.seen l.output).calls.faults ≡ (g.K.Sink.seen l.fn.output).calls.faults;
}

abbrev pub decreases-items : goal.decreases-items
decreases-items g l = longest_script + length l.items.waiting - l.items.read
