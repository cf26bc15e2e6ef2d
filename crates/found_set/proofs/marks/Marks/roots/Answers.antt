use Rattle.std.proofs.Common.{◌∙◌, ◌∷◌, []}
use Rattle.found_set.proofs.WordsLemmas.{marked_is, roots_set}
use Rattle.found_set.proofs.marks.Marks.roots.Goals as goal

pub returns-clause-roots : goal.returns-clause-roots
returns-clause-roots c = λ n small. marked_is (65535 ∷ 0 ∷ 0 ∷ 0 ∷ []) n small ∙ roots_set n
