use Rattle.std.proofs.Common.{◌≡◌, ◌+◌, ◌-◌, ◌<◌, ℕ, false, length, take, get_or, ap, sym, ◌∙◌, arith}
use Rattle.std.specs.Borrow.{Bor}
use Rattle.cfg_json.specs.declared.item.Item.{Item}
use Rattle.fan_zone.specs.Live.{controls, items_of}
use Rattle.inventory.specs.Items.{is_control}
use Rattle.fan_zone.proofs.ControlsLemmas.{not_last}
use Rattle.fan_zone.proofs.renew.to_last.Goals as goal

pub loop-behind-preserved : goal.loop-behind-preserved
loop-behind-preserved c =
    let live = c.args.live.now in
    let last = c.index-live-end.result in
    let n = length live - c.loop-behind.behind - 1 in
    let within : n < length live = omega (arith, c.loop-behind-test.true) in
    let next : n + 1 ≡ length live - c.loop-behind.behind = omega (arith, c.loop-behind-test.true) in
    let left : length live - (c.loop-behind.behind + 1) ≡ n = omega arith in
    let other : is_control (get_or live n last).now.part ≡ false =
    ap (λ (ref : Bor Item). is_control ref.now.part) (sym c.index-live-end.is) ∙ (sym c.is_control.ensures ∙ c.if-is_control.false) in
    let among = λ (m : ℕ). controls (items_of (take m live)) in
    ap among left ∙ (sym (not_last live n last within other) ∙ (ap among next ∙ c.loop-behind.invariant))
