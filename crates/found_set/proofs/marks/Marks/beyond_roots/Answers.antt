-- The marks are those that were there, but for the root buses.
use Rattle.std.proofs.Common.{◌∙◌, Bool, List, ◌&&◌, not, ap, sym, set, bit_and, get_or, arith}
use Rattle.found_set.specs.Marks.{is_marked}
use Rattle.found_set.specs.Found.{is_root}
use Rattle.found_set.proofs.WordsLemmas.{marked_is, beyond_set}
use Rattle.found_set.proofs.marks.Marks.beyond_roots.Goals as goal

pub returns-clause-beyond : goal.returns-clause-beyond
returns-clause-beyond c = λ test marked n small.
    let words = c.self.inside.words in
    marked_is (set words 0 (bit_and (get_or words 0 0) 18446744073709486080)) n small ∙ beyond_set words n (omega arith)
    ∙ ap (λ (b : Bool). not (is_root n) && b) (sym (marked_is words n small) ∙ ap (λ (list : List Bool). is_marked list n) c.self.view_is ∙ marked n small)
