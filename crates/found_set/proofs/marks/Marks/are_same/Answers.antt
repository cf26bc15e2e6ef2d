-- The same words have the same marks.
use Rattle.std.proofs.Common.{◌∙◌, ℕ, List, ap, sym}
use Rattle.std.specs.Cmp.Lexicographic.{bytes_decides}
use Rattle.found_set.specs.Marks.{marks, is_set}
use Rattle.found_set.proofs.marks.Marks.are_same.Goals as goal

pub returns : goal.returns
returns c = λ yes.
    sym c.self.view_is
    ∙ ap (λ (words : List ℕ). marks (is_set words)) ((bytes_decides c.self.inside.words c.others.inside.words).0 (sym c.eq.ensures ∙ yes))
    ∙ c.others.view_is
