-- A stretch more, and the end.
use Rattle.std.proofs.Common.{refl, sym, ◌∙◌, rules}
use Rattle.tmpl.specs.Rendering.{fields_of}
use Rattle.tmpl.specs.Stretches.{stretch_pieces}
use Rattle.tmpl.proofs.RenderingLemmas.{rendered_on, rendered_not, rendered_end}
use Rattle.tmpl.proofs.render.push_rest.Goals as goal

pub returns-in_err-push_stretch : goal.returns-in_err-push_stretch
returns-in_err-push_stretch c =
    let spot = c.args.spot.now in
    let begins = c.in-Some.ensures in
    rw c.from_residual.ensures
    (sym c.loop-stretch.invariant.told
    ∙ rendered_not spot.place (fields_of spot.fru) spot.index c.loop-stretch.out.bytes c.loop-stretch.rest.now c.in-Some.later.now
    (stretch_pieces c.in-Some.stretch) begins.0 c.in_err-push_stretch.ensures)

pub loop-stretch-init : goal.loop-stretch-init
loop-stretch-init c = record { told = refl; utf8 = c.utf8.text }

pub loop-stretch-preserved : goal.loop-stretch-preserved
loop-stretch-preserved c =
    let spot = c.args.spot.now in
    let begins = c.in-Some.ensures in
    record {
      told = sym (rendered_on spot.place (fields_of spot.fru) spot.index c.loop-stretch.out.bytes c.push_stretch.new.out.bytes c.loop-stretch.rest.now
          c.in-Some.later.now (stretch_pieces c.in-Some.stretch) begins.0 c.in_ok-push_stretch.ensures)
          ∙ c.loop-stretch.invariant.told;
      utf8 = search rules;
    }

pub returns : goal.returns
returns c =
    let spot = c.args.spot.now in
    sym c.loop-stretch.invariant.told
    ∙ rendered_end spot.place (fields_of spot.fru) spot.index c.loop-stretch.out.bytes c.loop-stretch.rest.now c.in_default.ensures
