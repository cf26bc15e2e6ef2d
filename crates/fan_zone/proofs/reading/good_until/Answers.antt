use Rattle.std.proofs.Common.{sym, subst, arith, ap, ◌+◌, ℕ, Option}
use Rattle.fan_zone.specs.Inputs.{has_bad_input}
use Rattle.fan_zone.proofs.SteadyLemmas.{HeldGood, good_alike, held_more, held_end}
use Rattle.fan_zone.proofs.reading.good_until.Goals as goal

pub loop-one-preserved : goal.loop-one-preserved
loop-one-preserved c =
    let slots = c.args.sensors.now.slots in
    subst (λ (until : Option ℕ). HeldGood slots c.args.now c.args.held.now until (c.loop-one.one-index + 1)) (sym c.earlier-until.ensures)
    (held_more slots c.args.now c.args.held.now c.loop-one.until c.inputs_good_until.result c.loop-one.one-index c.one-item.result
    c.loop-one.invariant c.loop-one-test.true c.one-item.is
    (good_alike _ _ c.args.now c.inputs_good_until.result (λ tick. ap (has_bad_input slots tick) c.as_slice.ensures) c.inputs_good_until.ensures))

pub returns : goal.returns
returns c =
    held_end c.args.sensors.now.slots c.args.now c.args.held.now c.loop-one.until c.loop-one.one-index c.loop-one.invariant
    (omega (arith, c.loop-one-test.false))
