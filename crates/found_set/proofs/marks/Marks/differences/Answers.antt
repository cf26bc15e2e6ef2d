-- A bit of either word and not of both.
use Rattle.std.proofs.Common.{◌∙◌, Bool, List, not, ap, ap₂, sym}
use Rattle.std.proofs.Math.Bool.{beq}
use Rattle.found_set.specs.Marks.{is_marked}
use Rattle.found_set.proofs.WordsLemmas.{marked_is, apart_words, apart_set}
use Rattle.found_set.proofs.marks.Marks.differences.Goals as goal

pub returns : goal.returns
returns c = λ n small.
    let words = c.self.inside.words in
    let others = c.others.inside.words in
    marked_is (apart_words words others) n small ∙ apart_set words others n small
    ∙ ap₂ (λ (here there : Bool). not (beq here there)) (sym (marked_is words n small) ∙ ap (λ (list : List Bool). is_marked list n) c.self.view_is)
    (sym (marked_is others n small) ∙ ap (λ (list : List Bool). is_marked list n) c.others.view_is)
