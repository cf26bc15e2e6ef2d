-- The text, or its front, and what stands behind that.
use Rattle.std.proofs.Common.{◌≡◌, [], map, drop, refl, ap, ◌∙◌}
use Rattle.tmpl.specs.Rendering.{fields_of}
use Rattle.tmpl.specs.Stretches.{joined}
use Rattle.tmpl.specs.Templates.{Plain}
use Rattle.tmpl.specs.Leads.{behind_lead}
use Rattle.tmpl.specs.declared.lead.Lead.{Lead}
use Rattle.tmpl.proofs.RenderingLemmas.{plain_text, rendered_on, rendered_not}
use Rattle.tmpl.proofs.render.push_lead.Goals as goal
use Rattle.tmpl.proofs.render.push_lead.Goals.{in-Unread, in-Whole+in_ok-push_text-in-Whole, in-Marked+in_ok-push_marked-in-Marked}

pub returns-in_err-push_text-in-Whole : goal.returns-in_err-push_text-in-Whole
returns-in_err-push_text-in-Whole c =
    let spot = c.args.spot.now in
    let text = c.args.text.now in
    let all = rw c.in-Whole.is at c.requires in
    rw c.from_residual.ensures
    (rendered_not spot.place (fields_of spot.fru) spot.index c.args.out.now.bytes text [] (map Plain text) all
    (ap (joined c.args.out.now.bytes) (plain_text spot.place (fields_of spot.fru) spot.index text) ∙ c.in_err-push_text-in-Whole.ensures))

pub returns : goal.returns
returns c =
    let spot = c.args.spot.now in
    let text = c.args.text.now in
    let behind_of = λ (lead : Lead). behind_lead lead text in
    elim c.match-lead.branch [
      | in-Unread w ↦
          let behind : c.behind.result.now ≡ text = c.behind.ensures ∙ ap behind_of w.in-Unread.is in
          (c.behind.ensures, rw (w.out-is, behind) refl)
      | in-Whole+in_ok-push_text-in-Whole w ↦
          let all = rw w.in-Whole.is at c.requires in
          let behind : c.behind.result.now ≡ [] = c.behind.ensures ∙ ap behind_of w.in-Whole.is in
          let told = rendered_on spot.place (fields_of spot.fru) spot.index c.args.out.now.bytes w.push_text.new.out.bytes text [] (map Plain text) all
          (ap (joined c.args.out.now.bytes) (plain_text spot.place (fields_of spot.fru) spot.index text) ∙ w.in_ok-push_text-in-Whole.ensures) in
          (c.behind.ensures, rw (w.out-is, behind) told)
      | in-Marked+in_ok-push_marked-in-Marked w ↦
          let behind : c.behind.result.now ≡ drop w.in-Marked.marks.rest text = c.behind.ensures ∙ ap behind_of w.in-Marked.is in
          (c.behind.ensures, rw (w.out-is, behind) w.in_ok-push_marked-in-Marked.ensures)
    ]
