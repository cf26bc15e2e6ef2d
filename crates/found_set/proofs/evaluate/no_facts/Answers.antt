-- Nothing is found, and the root buses are reachable.
use Rattle.std.proofs.Common.{◌∙◌, Bool, List, [], false, ap, ap₂, sym, length}
use Rattle.std.proofs.lemmas.List.FromFn.{fill_by_all}
use Rattle.std.proofs.Math.Bool.{or-false}
use Rattle.found_set.specs.declared.facts.Facts.{Facts}
use Rattle.found_set.specs.Marks.{is_marked}
use Rattle.found_set.specs.Found.{is_root, is_reached, is_found}
use Rattle.found_set.proofs.FoundLemmas.{none_marked}
use Rattle.found_set.proofs.evaluate.no_facts.Goals as goal

pub returns : goal.returns
returns c =
    ap₂ (λ (found reach : List Bool). let f : Facts = record { found = found; reach = reach } in f)
    (fill_by_all (is_found [] []) c.none.result 256 false (ap length c.none.ensures)
    (λ n h. ap (λ (list : List Bool). is_marked list n) c.none.ensures ∙ none_marked 256 n))
    (fill_by_all (is_reached [] []) c.roots.result 256 false c.roots.ensures.count (λ n h. c.roots.ensures.roots n h ∙ sym (or-false (is_root n))))
