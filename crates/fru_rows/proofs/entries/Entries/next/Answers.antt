use Rattle.std.proofs.Common.{◌∙◌, ◌∷◌, sym, ap}
use Rattle.probe_lang.specs.declared.rows.Entry.{Entry}
use Rattle.probe_lang.specs.Presents.{unboxed}
use Rattle.fru_rows.specs.Parts.{joined}
use Rattle.fru_rows.proofs.JoinedLemmas.{first_of_boxes, other_of_boxes, boxes_apart}
use Rattle.fru_rows.proofs.entries.Entries.next.Goals as goal

pub returns-then-comes_first : goal.returns-then-comes_first
returns-then-comes_first c =
    sym c.self.view_is
    ∙ first_of_boxes c.self.inside.list.now c.self.inside.others.now c.in_ok-first.later.now c.in_ok-first.first.now c.in_ok-first.ensures.cases.0
    c.self.invariant (sym c.comes_first.ensures ∙ c.if-comes_first.true)
    ∙ ap (λ (entry : Entry). entry ∷ joined (unboxed c.in_ok-first.later.now) (unboxed c.self.inside.others.now)) (sym c.deref.ensures)

pub invariant_of-self-2 : goal.invariant_of-self-2
invariant_of-self-2 c =
    boxes_apart c.self.inside.list.now c.self.inside.others.now c.in_ok-first-2.later.now c.in_ok-first-2.first.now c.in_ok-first-2.ensures.cases.0
    c.self.invariant

pub returns : goal.returns
returns c =
    sym c.self.view_is
    ∙ other_of_boxes c.self.inside.list.now c.self.inside.others.now c.in_ok-first-2.later.now c.in_ok-first-2.first.now c.in_ok-first-2.ensures.cases.0
    c.self.invariant (sym c.comes_first.ensures ∙ c.if-comes_first.false)
    ∙ ap (λ (entry : Entry). entry ∷ joined (unboxed c.self.inside.list.now) (unboxed c.in_ok-first-2.later.now)) (sym c.deref-2.ensures)
