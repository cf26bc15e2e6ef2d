-- What was found over the root buses is found there still, where the row has no hit.
use Rattle.std.proofs.Common.{◌∙◌, Bool, List, sym, subst}
use Rattle.found_set.specs.Found.{matched_by, roots, is_reached}
use Rattle.found_set.specs.Rows.{sights_of}
use Rattle.found_set.specs.Buses.{is_beyond}
use Rattle.found_set.specs.Earlier.{StillHold}
use Rattle.found_set.proofs.MarksLemmas.{reach_marked}
use Rattle.found_set.proofs.EarlierLemmas.{old_holds}
use Rattle.found_set.proofs.evaluate.earlier_beside.Goals as goal

pub returns : goal.returns
returns c = λ rules rows few before beside.
    let reached = is_reached rules (sights_of before.rows) in
    let beyond = c.beyond_roots.ensures.beyond reached (reach_marked rules (sights_of before.rows) c.args.old.now before.told) in
    let none = sym (c.are_on.ensures (is_beyond reached) beyond) ∙ c.if-are_on.false in
    let root = sym c.is_on_root.ensures ∙ c.if-not-is_on_root.false in
    subst (λ (found : List Bool). StillHold found c.beside.result.touched rules (matched_by (roots (sights_of rows)))) (sym c.beside.ensures.found)
    (old_holds rules c.args.row.now c.args.others.now rows c.args.old.now few before beside root none c.beside.result.touched c.beside.ensures.touched)
