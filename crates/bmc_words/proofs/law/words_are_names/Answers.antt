use Rattle.bmc_words.proofs.NamesLemmas.{words_are_names}
use Rattle.bmc_words.proofs.law.words_are_names.Goals as goal

pub returns : goal.returns
returns c = words_are_names
