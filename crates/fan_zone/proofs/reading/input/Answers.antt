use Rattle.std.proofs.Common.{get_or, slice_index_or, None}
use Rattle.std.proofs.lemmas.List.{get_or_default}
use Rattle.fan_zone.proofs.SteadyLemmas.{good_input_at}
use Rattle.fan_zone.proofs.reading.input.Goals as goal

pub good_input-requires : goal.good_input-requires
good_input-requires c = λ good.
    let inputs = c.args.inputs.now in
    let n = c.loop-input.input-index in
    good_input_at c.args.sensors.now.slots c.args.now inputs n (slice_index_or inputs n None) (c.requires good) c.loop-input-test.true
    (get_or_default inputs n None (get_or inputs n None) c.loop-input-test.true)
