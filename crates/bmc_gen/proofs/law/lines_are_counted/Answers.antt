use Rattle.bmc_gen.proofs.LawsLemmas.{lines_are_counted}
use Rattle.bmc_gen.proofs.law.lines_are_counted.Goals as goal

pub returns : goal.returns
returns c = lines_are_counted
