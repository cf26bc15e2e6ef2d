-- A hit marks its configuration.
use Rattle.std.proofs.Common.{◌∙◌, ◌==◌, ◌||◌, Bool, List, ap, sym, true, false, refl, ◌≡◌}
use Rattle.std.proofs.Math.Bool.{or-false}
use Rattle.std.proofs.lemmas.List.{take_all}
use Rattle.std.proofs.lemmas.List.Folds.{list_any_more}
use Rattle.probe_lang.specs.declared.rows.Hit.{Hit}
use Rattle.probe_lang.specs.Sights.{has_config}
use Rattle.found_set.specs.Marks.{is_marked}
use Rattle.found_set.proofs.marks.mark_touched.Goals as goal

or_or : (a b c : Bool) → ((a || b) || c) ≡ (a || (b || c))
or_or true b c = refl
or_or false b c = refl

pub loop-hit-init : goal.loop-hit-init
loop-hit-init c = λ n small. sym (or-false (is_marked c.args.marks.now n))

pub loop-hit-preserved : goal.loop-hit-preserved
loop-hit-preserved c = λ n small.
    rw (c.mark.ensures n small, c.loop-hit.invariant n small)
    (or_or (is_marked c.args.marks.now n) _ _
    ∙ ap (λ (b : Bool). is_marked c.args.marks.now n || b)
    (sym (list_any_more (λ (hit : Hit). hit.config == n) c.args.hits.now c.loop-hit.hit-index _ c.loop-hit-test.true)))

pub returns : goal.returns
returns c = λ n small.
    c.loop-hit.invariant n small
    ∙ ap (λ (hits : List Hit). is_marked c.args.marks.now n || has_config hits n) (take_all c.loop-hit.hit-index c.args.hits.now c.loop-hit-test.false)
