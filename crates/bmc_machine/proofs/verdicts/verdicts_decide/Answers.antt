use Rattle.std.proofs.Common.{ap}
use Rattle.bmc_text.specs.Items.{items_of}
use Rattle.bmc_report.specs.declared.refusal.Origin.TheVariants.{Line}
use Rattle.bmc_machine.specs.Answers.{Answer, and_then, with_list}
use Rattle.bmc_machine.proofs.TiesLemmas.{verdicts_answer}
use Rattle.bmc_machine.proofs.verdicts.verdicts_decide.Goals as goal

pub returns : goal.returns
returns c = record {
  items = verdicts_answer;
  script = λ first script verdicts others tied also_tied each also_each small also_small.
      ap (λ (later : Answer). with_list (and_then first later))
      (verdicts_answer Line 1 first.past (items_of script) verdicts others tied also_tied each also_each small also_small);
}
