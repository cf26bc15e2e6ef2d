use Rattle.fru_area.proofs.NamesLemmas.{name_text_injective}
use Rattle.fru_area.proofs.law.one_name.Goals as goal

pub returns : goal.returns
returns c = name_text_injective
