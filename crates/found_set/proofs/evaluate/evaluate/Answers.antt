-- First over the root buses, then over those that are reachable.
use Rattle.std.proofs.Common.{◌≡◌, ◌∙◌, ◌*◌, Bool, List, ap, ap₂, false, length, arith, sym}
use Rattle.std.proofs.lemmas.List.FromFn.{fill_by_all}
use Rattle.found_set.specs.declared.facts.Facts.{Facts}
use Rattle.found_set.specs.Marks.{is_marked, AreMarked}
use Rattle.found_set.specs.Found.{is_root, is_reached, is_found, found, matched_by, on_buses}
use Rattle.found_set.specs.Rows.{sights_of}
use Rattle.found_set.specs.Buses.{is_beyond}
use Rattle.found_set.proofs.StepsLemmas.{within_sum}
use Rattle.found_set.proofs.EventsLemmas.{none_within}
use Rattle.found_set.proofs.IdleLemmas.{found_as}
use Rattle.found_set.proofs.EarlierLemmas.{nothing_holds}
use Rattle.found_set.proofs.MarksLemmas.{first_marked, then_marked, all_near}
use Rattle.found_set.proofs.evaluate.evaluate.Goals as goal

pub returns-then-not-are_on-clause-facts : goal.returns-then-not-are_on-clause-facts
returns-then-not-are_on-clause-facts g c =
    let rules = c.args.rules.now in
    let rows = c.args.rows.now in
    let sights = sights_of rows in
    let one = first_marked rows c.mark.new.marks (c.mark.ensures is_root c.roots-roots.ensures.roots) in
    let first = c.found_by-first.ensures.found (matched_by (on_buses is_root sights)) one c.requires.earlier in
    let reached = c.reach_of-reach.ensures first in
    let beyond = c.beyond_roots-beyond.ensures.beyond (is_reached rules sights) reached in
    let none = sym (c.are_on.ensures (is_beyond (is_reached rules sights)) beyond) ∙ c.if-not-are_on.true in
    let same : found rules (on_buses is_root sights) ≡ found rules (on_buses (is_reached rules sights) sights) =
    found_as rules (on_buses is_root sights) (on_buses (is_reached rules sights) sights) (all_near rules rows none) in
    let found : AreMarked c.found_by-first.result (is_found rules sights) = λ n small. first n small ∙ ap (λ (list : List Bool). is_marked list n) same in
    ap₂ (λ (found reach : List Bool). let f : Facts = record { found = found; reach = reach } in f)
    (fill_by_all (is_found rules sights) c.found_by-first.result 256 false c.found_by-first.ensures.count found)
    (fill_by_all (is_reached rules sights) c.reach_of-reach.result 256 false c.beyond_roots-beyond.ensures.count reached)

pub returns-clause-facts : goal.returns-clause-facts
returns-clause-facts g c =
    let rules = c.args.rules.now in
    let rows = c.args.rows.now in
    let sights = sights_of rows in
    let one = first_marked rows c.mark.new.marks (c.mark.ensures is_root c.roots-roots.ensures.roots) in
    let first = c.found_by-first.ensures.found (matched_by (on_buses is_root sights)) one c.requires.earlier in
    let reached = c.reach_of-reach.ensures first in
    let beyond = c.beyond_roots-beyond.ensures.beyond (is_reached rules sights) reached in
    let two = then_marked rules rows c.mark.new.marks c.mark-2.new.marks one (c.mark-2.ensures (is_beyond (is_reached rules sights)) beyond) in
    let found = c.found_by-found.ensures.found (matched_by (on_buses (is_reached rules sights) sights)) two
    (nothing_holds _ _ rules (matched_by (on_buses (is_reached rules sights) sights)) c.requires.few c.nothing.ensures) in
    ap₂ (λ (found reach : List Bool). let f : Facts = record { found = found; reach = reach } in f)
    (fill_by_all (is_found rules sights) c.found_by-found.result 256 false c.found_by-found.ensures.count found)
    (fill_by_all (is_reached rules sights) c.reach_of-reach.result 256 false c.beyond_roots-beyond.ensures.count reached)

pub returns-then-not-are_on-clause-counted : goal.returns-then-not-are_on-clause-counted
returns-then-not-are_on-clause-counted g c =
    within_sum c.args.steps.now c.found_by-first.new.steps c.found_by-first.new.steps (length c.args.rules.now) 0
    (2 * length c.args.rules.now) c.found_by-first.ensures.counted (none_within _ 0) (omega arith)

pub returns-clause-counted : goal.returns-clause-counted
returns-clause-counted g c =
    within_sum c.args.steps.now c.found_by-first.new.steps c.found_by-found.new.steps (length c.args.rules.now) (length c.args.rules.now)
    (2 * length c.args.rules.now) c.found_by-first.ensures.counted c.found_by-found.ensures.counted (omega arith)
