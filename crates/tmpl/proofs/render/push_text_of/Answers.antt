-- What is known of the text, and what is left.
use Rattle.std.proofs.Common.{List, ℕ, sym, ap, ◌∙◌, arith}
use Rattle.tmpl.specs.Rendering.{fields_of, rendered_behind}
use Rattle.tmpl.proofs.PiecesLemmas.{empty_is}
use Rattle.tmpl.proofs.RenderingLemmas.{rendered_start, rendered_end}
use Rattle.tmpl.proofs.render.push_text_of.Goals as goal

pub returns-in_err-behind : goal.returns-in_err-behind
returns-in_err-behind c =
    let spot = c.args.spot.now in
    let start = ap (λ (out : List ℕ). rendered_behind spot.place (fields_of spot.fru) spot.index out c.args.text.now) c.requires.empty
    ∙ rendered_start spot.place (fields_of spot.fru) spot.index c.args.text.now in
    rw c.from_residual.ensures (sym start ∙ c.in_err-behind.ensures)

pub returns-in_err-rest : goal.returns-in_err-rest
returns-in_err-rest c =
    let spot = c.args.spot.now in
    let start = ap (λ (out : List ℕ). rendered_behind spot.place (fields_of spot.fru) spot.index out c.args.text.now) c.requires.empty
    ∙ rendered_start spot.place (fields_of spot.fru) spot.index c.args.text.now in
    rw c.from_residual-in_err-rest.ensures (sym start ∙ c.in_ok-behind.ensures.1 ∙ c.in_err-rest.ensures)

pub returns-then-is_empty : goal.returns-then-is_empty
returns-then-is_empty c =
    let spot = c.args.spot.now in
    let start = ap (λ (out : List ℕ). rendered_behind spot.place (fields_of spot.fru) spot.index out c.args.text.now) c.requires.empty
    ∙ rendered_start spot.place (fields_of spot.fru) spot.index c.args.text.now in
    sym start ∙ c.in_ok-behind.ensures.1 ∙ c.in_ok-rest.ensures.1
    ∙ rendered_end spot.place (fields_of spot.fru) spot.index c.push_lead-2.new.out.bytes c.in_ok-rest.rest.now
    (empty_is c.in_ok-rest.rest.now (grind (arith, c.if-is_empty.ensures)))

pub returns : goal.returns
returns c =
    let spot = c.args.spot.now in
    let start = ap (λ (out : List ℕ). rendered_behind spot.place (fields_of spot.fru) spot.index out c.args.text.now) c.requires.empty
    ∙ rendered_start spot.place (fields_of spot.fru) spot.index c.args.text.now in
    rw (sym start ∙ c.in_ok-behind.ensures.1 ∙ c.in_ok-rest.ensures.1) c.push_rest.ensures
