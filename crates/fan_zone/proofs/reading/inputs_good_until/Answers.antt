use Rattle.std.proofs.Common.{sym, subst, arith, get_or, ◌+◌, ℕ, None, Option}
use Rattle.std.proofs.lemmas.List.{get_or_default}
use Rattle.fan_zone.proofs.SteadyLemmas.{InputsGood, inputs_more, inputs_end}
use Rattle.fan_zone.proofs.reading.inputs_good_until.Goals as goal

pub loop-input-preserved : goal.loop-input-preserved
loop-input-preserved c =
    subst (λ (until : Option ℕ). InputsGood c.args.sensors.now.slots c.args.now c.args.inputs.now until (c.loop-input.input-index + 1))
    (sym c.earlier-until.ensures)
    (inputs_more c.args.sensors.now.slots c.args.now c.args.inputs.now c.loop-input.until c.input_good_until.result c.loop-input.input-index _
    c.loop-input.invariant c.loop-input-test.true
    (get_or_default c.args.inputs.now c.loop-input.input-index None (get_or c.args.inputs.now c.loop-input.input-index None) c.loop-input-test.true)
    c.input_good_until.ensures)

pub returns : goal.returns
returns c =
    inputs_end c.args.sensors.now.slots c.args.now c.args.inputs.now c.loop-input.until c.loop-input.input-index c.loop-input.invariant
    (omega (arith, c.loop-input-test.false))
