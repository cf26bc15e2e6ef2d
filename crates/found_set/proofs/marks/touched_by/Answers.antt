use Rattle.std.proofs.Common.{◌∙◌, ◌||◌, Bool, List, ap}
use Rattle.probe_lang.specs.Sights.{has_config}
use Rattle.found_set.specs.Marks.{is_marked}
use Rattle.found_set.proofs.FoundLemmas.{none_marked}
use Rattle.found_set.proofs.marks.touched_by.Goals as goal

pub returns : goal.returns
returns c = λ n small.
    c.mark_touched.ensures n small
    ∙ ap (λ (b : Bool). b || has_config c.args.hits.now n) (ap (λ (list : List Bool). is_marked list n) c.none-touched.ensures ∙ none_marked 256 n)
