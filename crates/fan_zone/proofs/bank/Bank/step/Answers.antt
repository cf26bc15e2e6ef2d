use Rattle.std.proofs.Common.{ℤ, Some, SFits, w64, rules, ◌≡◌, ◌<◌, length, map, set, ap, sym, ◌∙◌, arith}
use Rattle.std.proofs.lemmas.List.{map-set, get_or-map, length-map}
use Rattle.std.proofs.lemmas.Int.{to_z-of_z}
use Rattle.ctl_face.specs.Seen.{stepped}
use Rattle.fan_zone.specs.Boxes.{box_at}
use Rattle.fan_zone.proofs.OutputsLemmas.{outputs_set}
use Rattle.fan_zone.proofs.bank.Bank.step.Goals as goal

pub returns-clause-state : goal.returns-clause-state
returns-clause-state g c =
    let seen = g.C.Controller.seen in
    let items = c.self.inside.boxes.items in
    let slot = c.args.number in
    let new = c.step-output.new.self in
    let old = c.index_mut-controller.result.now in
    let same : map seen items ≡ c.args.self.now = c.self.view_is in
    let within : slot < length items = omega (arith, length-map items seen, ap length same, c.requires.within) in
    let here : box_at (map seen items) slot ≡ seen old = get_or-map seen items slot old _ within ∙ ap seen (sym c.index_mut-controller.ensures.value) in
    let there : seen new ≡ stepped (box_at c.args.self.now slot) c.args.sample =
    c.step-output.ensures.state ∙ ap (λ s. stepped s c.args.sample) (sym here ∙ ap (λ b. box_at b slot) same) in
    map-set seen items slot new ∙ (ap (λ b. set b slot (seen new)) same ∙ ap (set c.args.self.now slot) there)

pub invariant_of-self : goal.invariant_of-self
invariant_of-self g c =
    let fits : SFits w64 c.step-output.result.0 = search rules in
    let output = to_z-of_z w64 c.step-output.result.0 fits in
    outputs_set g.C.Controller.seen c.self.inside.boxes.items c.self.inside.outputs.items c.args.number c.step-output.new.self _ c.self.invariant
    (sym (ap (λ (z : ℤ). Some z) output ∙ c.step-output.ensures.output))
