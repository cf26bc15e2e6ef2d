use Rattle.std.proofs.Common.{◌≡◌, ◌<◌, length, map, set, ap, sym, ◌∙◌, arith}
use Rattle.std.proofs.lemmas.List.{map-set, get_or-map, length-map}
use Rattle.ctl_face.specs.Seen.{Seen, loaded}
use Rattle.fan_zone.specs.Boxes.{box_at}
use Rattle.fan_zone.proofs.OutputsLemmas.{outputs_set}
use Rattle.fan_zone.proofs.bank.Bank.load.Goals as goal

pub returns : goal.returns
returns g c =
    let seen = g.C.Controller.seen in
    let items = c.self.inside.boxes.items in
    let number = c.args.number in
    let new = c.load.new.self in
    let old = c.index_mut-controller.result.now in
    let same : map seen items ≡ c.args.self.now = c.self.view_is in
    let within : number < length items = omega (arith, length-map items seen, ap length same, c.requires.within) in
    let here : box_at (map seen items) number ≡ seen old = get_or-map seen items number old _ within ∙ ap seen (sym c.index_mut-controller.ensures.value) in
    let after = λ (s : Seen). loaded s c.args.setting.now in
    let there : seen new ≡ after (box_at c.args.self.now number) = c.load.ensures ∙ ap after (sym here ∙ ap (λ b. box_at b number) same) in
    map-set seen items number new ∙ (ap (λ b. set b number (seen new)) same ∙ ap (set c.args.self.now number) there)

pub invariant_of-self : goal.invariant_of-self
invariant_of-self g c =
    outputs_set g.C.Controller.seen c.self.inside.boxes.items c.self.inside.outputs.items c.args.number c.load.new.self _ c.self.invariant
    (ap (λ (s : Seen). s.state.output) c.load.ensures)
