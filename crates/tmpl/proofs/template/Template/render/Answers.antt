-- A fixed template is its own text.
use Rattle.std.proofs.Common.{◌≡◌, true, ℕ, List, sym, ap, ◌∙◌}
use Rattle.std.specs.Result.{result_ok}
use Rattle.bmc_base.specs.Names.{name_of}
use Rattle.tmpl.specs.Rendering.{fields_of, given}
use Rattle.tmpl.specs.Templates.{is_fixed}
use Rattle.tmpl.proofs.RenderingLemmas.{fixed_is}
use Rattle.tmpl.proofs.template.Template.render.Goals as goal

pub returns-then-self : goal.returns-then-self
returns-then-self c =
    let spot = c.args.spot.now in
    let same = c.as_str.ensures.value ∙ c.self.view_is in
    let fixed : is_fixed c.args.self.now ≡ true = ap is_fixed (sym c.self.view_is) ∙ sym c.self.invariant.1 ∙ c.if-self.true in
    c.named.ensures ∙ ap (λ (text : List ℕ). given (result_ok (name_of text))) same
    ∙ ap given (sym (fixed_is spot.place (fields_of spot.fru) spot.index c.args.self.now fixed))
