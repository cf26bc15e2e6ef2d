use Rattle.bmc_report.specs.declared.refusal.Origin.TheVariants.{File, Line}
use Rattle.bmc_text.specs.Items.{items_of, whole_items}
use Rattle.bmc_machine.specs.Histories.{begun}
use Rattle.bmc_machine.proofs.HistoryLemmas.{items_are_legal, start_is_legal}
use Rattle.bmc_machine.proofs.histories.histories_are_legal.Goals as goal

pub returns : goal.returns
returns c = record {
  items = items_are_legal;
  files = λ options verdicts files. items_are_legal File 1 (begun options) verdicts files (start_is_legal options);
  script = λ first verdicts script legal. items_are_legal Line 1 first.past verdicts (items_of script) legal;
  whole = λ first verdicts bytes legal. items_are_legal Line 1 first.past verdicts (whole_items bytes) legal;
}
