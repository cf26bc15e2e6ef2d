-- Each hit so far is had.
use Rattle.std.proofs.Common.{◌∙◌, ap₂, sym, ◌&&◌, Bool}
use Rattle.std.specs.List.{list_any}
use Rattle.std.proofs.lemmas.List.Folds.{list_all_at, list_all_more}
use Rattle.probe_lang.specs.declared.rows.Hit.{Hit}
use Rattle.found_set.specs.Buses.{has_on}
use Rattle.found_set.proofs.cover.are_had.Goals as goal

pub returns-then-not-have_on : goal.returns-then-not-have_on
returns-then-not-have_on c = λ test marked.
    sym (list_all_at (λ (hit : Hit). list_any (has_on test hit.config hit.pattern) c.args.rows.now) c.args.hits.now c.loop-hit.hit-index _
    c.loop-hit-test.true (sym (c.have_on.ensures test marked) ∙ c.if-not-have_on.true))

pub loop-hit-preserved : goal.loop-hit-preserved
loop-hit-preserved c = λ test marked.
    list_all_more (λ (hit : Hit). list_any (has_on test hit.config hit.pattern) c.args.rows.now) c.args.hits.now c.loop-hit.hit-index _ c.loop-hit-test.true
    ∙ ap₂ (λ (x y : Bool). x && y) (c.loop-hit.invariant test marked) (sym (c.have_on.ensures test marked) ∙ c.if-not-have_on.false)
