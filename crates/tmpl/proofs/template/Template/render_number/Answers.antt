-- A number that is rendered is a name, and a fixed template is its own text.
use Rattle.std.proofs.Common.{◌≡◌, true, sym, ap, ◌∙◌}
use Rattle.tmpl.specs.Templates.{is_fixed}
use Rattle.tmpl.specs.Rendering.{fields_of, rendered}
use Rattle.tmpl.proofs.RenderingLemmas.{fixed_is, number_is, number_none}
use Rattle.tmpl.proofs.template.Template.render_number.Goals as goal

pub returns-then-self : goal.returns-then-self
returns-then-self c =
    let spot = c.args.spot.now in
    let same = c.as_str.ensures.value ∙ c.self.view_is in
    let fixed : is_fixed c.args.self.now ≡ true = ap is_fixed (sym c.self.view_is) ∙ sym c.self.invariant.1 ∙ c.if-self.true in
    rw same at c.number_in.ensures
    ∙ number_is spot.place (fields_of spot.fru) spot.index c.args.self.now c.args.self.now c.args.max
    (fixed_is spot.place (fields_of spot.fru) spot.index c.args.self.now fixed)

pub returns-in_err-push_text_of : goal.returns-in_err-push_text_of
returns-in_err-push_text_of c =
    let spot = c.args.spot.now in
    let same = c.as_str-2.ensures.value ∙ c.self.view_is in
    c.from_residual.ensures
    ∙ number_none spot.place (fields_of spot.fru) spot.index c.args.self.now c.args.max
    (ap (rendered spot.place (fields_of spot.fru) spot.index) (sym same) ∙ c.in_err-push_text_of.ensures)

pub returns : goal.returns
returns c =
    let spot = c.args.spot.now in
    let same = c.as_str-2.ensures.value ∙ c.self.view_is in
    rw c.as_str-3.ensures.value at c.number_in-2.ensures
    ∙ number_is spot.place (fields_of spot.fru) spot.index c.args.self.now c.push_text_of.new.out.bytes c.args.max
    (ap (rendered spot.place (fields_of spot.fru) spot.index) (sym same) ∙ c.in_ok-push_text_of.ensures)
