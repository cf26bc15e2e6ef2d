use Rattle.std.proofs.Common.{◌≡◌, ◌+◌, ◌*◌, drop}
use Rattle.bmc_base.specs.Steps.{with_evals}
use Rattle.probe_lang.specs.Values.{value, value_from}
use Rattle.probe_lang.proofs.truths.holds.Given as goal

abbrev pub invariant-loop-k : goal.invariant-loop-k
invariant-loop-k g l = record {
  told : value_from l.value (drop (2 * l.k + 1) l.words) (g.T.Truths.patterns l.truths) (g.T.Truths.founds l.truths)
      ≡ value l.words (g.T.Truths.patterns l.truths) (g.T.Truths.founds l.truths);
  counted : l.steps ≡ with_evals l.fn.steps 1;
}
