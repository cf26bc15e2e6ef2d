use Rattle.std.proofs.Common.{◌∙◌, ◌||◌, List, ap}
use Rattle.probe_lang.specs.declared.rows.Hit.{Hit}
use Rattle.probe_lang.specs.Sights.{has_config}
use Rattle.found_set.specs.Marks.{is_marked}
use Rattle.inventory.proofs.MomentsLemmas.{alike_bus, one_alike, one_marked}
use Rattle.inventory.proofs.hits.mark_if_seen_otherwise.Goals as goal

pub returns-then-reach : goal.returns-then-reach
returns-then-reach c =
    one_marked c.args.marks.now c.mark_touched.new.marks c.args.facts.now c.args.facts_after.now c.args.entry.now
    (λ number small. c.mark_touched.ensures number small
    ∙ ap (λ (hits : List Hit). is_marked c.args.marks.now number || has_config hits number) c.as_slice.ensures)

pub returns-else-reach : goal.returns-else-reach
returns-else-reach c =
    one_alike c.args.marks.now c.args.facts.now c.args.facts_after.now c.args.entry.now
    (λ reach reach_after marked marked_after.
    alike_bus reach reach_after c.args.facts.now.reach c.args.facts_after.now.reach c.bus-bus.result c.args.entry.now.place.bus c.reach.result
    c.reach-2.result marked marked_after c.bus-bus.type_inv c.bus-bus.ensures c.reach.ensures c.reach-2.ensures c.if-reach.false)
