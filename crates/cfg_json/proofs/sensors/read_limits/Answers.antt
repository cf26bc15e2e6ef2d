-- A limit more, in its slot.
use Rattle.std.proofs.Common.{◌≡◌, ◌∙◌, ◌<◌, ◌≤◌, ◌+◌, length, take, drop, map, ap, sym, arith}
use Rattle.serde_json.specs.View.{view}
use Rattle.cfg_json.specs.Values.{each}
use Rattle.cfg_json.specs.Sensors.{limit_of}
use Rattle.cfg_json.proofs.ListsLemmas.{each_more}
use Rattle.cfg_json.proofs.SensorsLemmas.{with_rest, limit_more, slot_more, slots_eight, few_elements}
use Rattle.cfg_json.proofs.sensors.read_limits.Goals as goal

pub loop-i-preserved : goal.loop-i-preserved
loop-i-preserved c =
    let items = c.in_ok-items.items.now in
    let i = c.loop-i.i in
    let slots = c.loop-i.limits in
    let limit = c.in_ok-limits.field-0 in
    let room : length slots ≡ 8 = slots_eight slots (take i slots) c.loop-i.invariant.unused in
    let few : length items ≤ 8 = few_elements 0 8 (view c.in-Some.value.now) items (sym c.in_ok-items.ensures) in
    let within : i < 8 = omega arith in
    record {
      rest = limit_more slots i limit room within (each limit_of (map view (drop (i + 1) items)))
          ∙ ap (with_rest i slots) (sym (each_more limit_of items i c.index-items-i.result limit c.loop-i-test.true c.index-items-i.is
          (sym c.in_ok-limits.ensures)))
          ∙ c.loop-i.invariant.rest;
      unused = slot_more slots i limit room within c.loop-i.invariant.unused;
    }
