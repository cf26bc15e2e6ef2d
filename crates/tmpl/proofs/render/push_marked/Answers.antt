-- The plain text, and the substitution behind it.
use Rattle.std.proofs.Common.{◌≡◌, ℕ, List, [], ◌∷◌, take, drop, map, Some, sym, ap, ◌∙◌}
use Rattle.tmpl.specs.Operations.{operations_of}
use Rattle.tmpl.specs.Rendering.{fields_of, substituted}
use Rattle.tmpl.specs.Stretches.{joined}
use Rattle.tmpl.specs.Templates.{Plain, Substitution}
use Rattle.tmpl.proofs.RenderingLemmas.{plain_text, substitution_text, rendered_on, rendered_not, rendered_joined}
use Rattle.tmpl.proofs.render.push_marked.Goals as goal

pub returns-in_err-push_text : goal.returns-in_err-push_text
returns-in_err-push_text c =
    let spot = c.args.spot.now in
    let text = c.args.text.now in
    let plain = take c.args.marks.now.plain text in
    let front : c.split_at.result.0.now ≡ plain = c.split_at.ensures.front ∙ ap (λ (n : ℕ). take n text) c.from.ensures in
    let is = plain_text spot.place (fields_of spot.fru) spot.index plain ∙ ap Some (sym front) in
    rw c.from_residual.ensures
    (rendered_not spot.place (fields_of spot.fru) spot.index c.args.out.now.bytes text (drop c.args.marks.now.plain text)
    (map Plain plain) c.requires.front.split
    (ap (joined c.args.out.now.bytes) is ∙ c.in_err-push_text.ensures))

pub returns : goal.returns
returns c =
    let spot = c.args.spot.now in
    let text = c.args.text.now in
    let marks = c.args.marks.now in
    let plain = take marks.plain text in
    let front : c.split_at.result.0.now ≡ plain = c.split_at.ensures.front ∙ ap (λ (n : ℕ). take n text) c.from.ensures in
    let is = plain_text spot.place (fields_of spot.fru) spot.index plain ∙ ap Some (sym front) in
    let behind : c.split_at-2.result.1.now ≡ drop marks.behind text =
    c.split_at-2.ensures.back ∙ ap (λ (n : ℕ). drop n c.as_bytes.result.now) c.from-2.ensures ∙ ap (drop marks.behind) c.as_bytes.ensures.value in
    let first = rendered_on spot.place (fields_of spot.fru) spot.index c.args.out.now.bytes c.push_text.new.out.bytes text (drop marks.plain text)
    (map Plain plain) c.requires.front.split (ap (joined c.args.out.now.bytes) is ∙ c.in_ok-push_text.ensures) in
    rw first
    (rendered_joined spot.place (fields_of spot.fru) spot.index c.push_text.new.out.bytes c.push_substitution.new.out.bytes (drop marks.plain text)
    (drop marks.rest text) (Substitution (Some marks.word) (operations_of (drop marks.behind text)) ∷ [])
    (substituted spot.place (fields_of spot.fru) spot.index marks.word (operations_of c.split_at-2.result.1.now)) c.push_substitution.result
    c.requires.split
    (substitution_text spot.place (fields_of spot.fru) spot.index marks.word (operations_of (drop marks.behind text))
    ∙ ap (λ (xs : List ℕ). substituted spot.place (fields_of spot.fru) spot.index marks.word (operations_of xs)) (sym behind))
    c.push_substitution.ensures)
