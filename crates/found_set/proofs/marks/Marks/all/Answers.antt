use Rattle.std.proofs.Common.{◌∙◌}
use Rattle.std.proofs.Common.{replicate}
use Rattle.found_set.proofs.WordsLemmas.{marked_is, all_set}
use Rattle.found_set.proofs.marks.Marks.all.Goals as goal

pub returns : goal.returns
returns c = λ n small. marked_is (replicate 4 18446744073709551615) n small ∙ all_set n small
