use Rattle.bmc_words.proofs.NamesLemmas.{words_behind_hyphens}
use Rattle.bmc_words.proofs.law.words_behind_hyphens_are_names.Goals as goal

pub returns : goal.returns
returns c = words_behind_hyphens
