use Rattle.std.proofs.Common.{rules, tests, ◌≡◌, sym, ◌∙◌}
use Rattle.std.specs.List.{list_any}
use Rattle.std.proofs.lemmas.Iterator.{YieldsList-from_slice}
use Rattle.std.proofs.lemmas.Iterator.Search.{any_from_yields_List}
use Rattle.fan_zone.specs.Inputs.{is_bad_input, is_bad_sensor, sensor_of}
use Rattle.fan_zone.proofs.Taken.{any_mapped}
use Rattle.fan_zone.proofs.reading.has_bad_input.Goals as goal

pub returns : goal.returns
returns c =
    let slots = c.args.sensors.now.slots in
    let inputs = c.args.inputs.now in
    let is : c.any.result ≡ list_any (is_bad_input slots c.args.now) inputs =
    any_from_yields_List (is_bad_input slots c.args.now) _ _ _ c.any.ensures.ran (YieldsList-from_slice inputs cc) (λ x b q k. search (rules, tests)) in
    is ∙ sym (any_mapped (is_bad_sensor c.args.now) (sensor_of slots) inputs)
