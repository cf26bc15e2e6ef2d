use Rattle.std.proofs.Common.{arith, ◌≡◌, ◌∙◌, List, [], true, false, Some, find, length, map, option_map, refl, ap, sym, subst, append-nil, inr}
use Rattle.std.specs.List.{AllByRecursion}
use Rattle.bmc_base.specs.Steps.{IsWithin}
use Rattle.probe_lang.specs.Presents.{without_entry, is_entry_at, are_by_place}
use Rattle.fru_rows.specs.Idle.{busy}
use Rattle.found_set.specs.Found.{facts}
use Rattle.found_set.specs.Rows.{sights_of}
use Rattle.found_set.specs.Events.{UnplugEvent}
use Rattle.found_set.specs.Sets.{SetView}
use Rattle.found_set.specs.declared.next_facts.NextFacts.{NextFacts}
use Rattle.inventory.specs.Boards.{boards_in, rules_of}
use Rattle.probe_lang.specs.Sights.{entry_sight}
use Rattle.bmc_watch.specs.Changes.{IsDifference}
use Rattle.bmc_watch.specs.Settling.{Settles}
use Rattle.bmc_watch.specs.Watches.{WatchView}
use Rattle.bmc_watch.specs.Steps.{RemovesFru}
use Rattle.bmc_watch.specs.Counting.{most_evals}
use Rattle.bmc_watch.proofs.BusyLemmas.{busy_found, busy_without}
use Rattle.bmc_watch.proofs.EventsLemmas.{IsSeen, on_err, busy_at, busy_none, held_place, unplug_among, seen, difference_is, gone_within, staged_within}
use Rattle.bmc_watch.proofs.EventsLemmas.{tells_those, set_after}
use Rattle.bmc_watch.proofs.EventsLemmas.{rows_unplugged, none_left}
use Rattle.probe_lang.specs.declared.rows.Entry.{Entry}
use Rattle.cfg_json.specs.declared.item.Item.{Item}
use Rattle.bmc_watch.specs.ItemSteps.{Continues}
use Rattle.match_rows.proofs.RowsLemmas.{without_entry_by_place}
use Rattle.inventory.specs.Limits.{limit_of, totals_after}
use Rattle.bmc_watch.specs.Insides.{IsStocked, view_of}
use Rattle.bmc_watch.proofs.ItemsLemmas.{gone_apart}
use Rattle.bmc_watch.proofs.StockLemmas.{IsNext, counted_then, items_with, none_passed, stock_is, settles, taken_over, told_of, unplug_continues}
use Rattle.bmc_watch.proofs.CountingLemmas.{within_rules}
use Rattle.bmc_watch.proofs.LeftLemmas.{left_same, left_sound}
use Rattle.bmc_watch.proofs.watch.Watch.remove_busy.Given.{Over}
use Rattle.bmc_watch.proofs.watch.Watch.remove_busy.Goals.{In_ok-next, In_ok-difference, After-commit-2}
use Rattle.bmc_watch.proofs.watch.Watch.remove_busy.Goals as goal

pub prepare_unplug-requires : goal.prepare_unplug-requires
prepare_unplug-requires g c =
    held_place c.self.inside.set.rows c.self.inside.rows.entries c.args.place c.in-Some.entry.now c.self.invariant.rows (sym c.in-Some.ensures.value)
    (busy_at (find (is_entry_at c.args.place) c.args.self.now.entries) c.in-Some.entry.now
    (c.in-Some.ensures.value ∙ ap (λ (view : WatchView). find (is_entry_at c.args.place) view.entries) c.self.view_is) c.requires)

pub difference_by-requires : goal.difference_by-requires
difference_by-requires g c =
    inr (unplug_among c.args.place c.in-Some.entry.now (busy c.self.inside.rows.entries) c.of-before.result.entries c.without-after.result.entries
    (ap are_by_place (sym c.busy.ensures.value) ∙ c.busy.ensures.order)
    (busy_found c.args.place c.in-Some.entry.now c.self.inside.rows.entries (sym c.in-Some.ensures.value) (busy_at (find (is_entry_at c.args.place)
    c.args.self.now.entries) c.in-Some.entry.now
    (c.in-Some.ensures.value ∙ ap (λ (view : WatchView). find (is_entry_at c.args.place) view.entries) c.self.view_is) c.requires))
    (c.of-before.ensures.entries ∙ c.busy.ensures.value)
    (c.without-after.ensures.entries ∙ ap (without_entry c.args.place) c.busy-2.ensures.value))

-- ---- what is known once the boards are compared

abbrev left : (g : Over) (c : In_ok-difference g) → List Entry
left g c = without_entry c.args.place c.self.inside.rows.entries

seen_before : (g : Over) (c : In_ok-difference g) → IsSeen c.self.inside.shelf c.self.inside.rows.entries c.of-before.result
seen_before g c =
    seen c.self.inside.shelf c.self.inside.rows.entries c.of-before.result c.self.inside.set.rules c.self.inside.set.rows
    (c.of-before.ensures.facts ∙ c.facts.ensures.current ∙ ap (λ (set : SetView). facts set.rules (sights_of set.rows)) c.in_ok-next.ensures.ok)
    c.self.invariant.rules c.self.invariant.rows (c.of-before.ensures.entries ∙ c.busy.ensures.value)

seen_behind : (g : Over) (c : In_ok-difference g) → IsSeen c.self.inside.shelf (left g c) c.without-after.result
seen_behind g c =
    seen c.self.inside.shelf (left g c) c.without-after.result c.self.inside.set.rules _
    (c.without-after.ensures.facts ∙ c.facts-2.ensures ∙ ap (λ (next : NextFacts). next.facts) c.in_ok-next.ensures.next) c.self.invariant.rules
    (rows_unplugged c.self.inside.set.rows c.self.inside.rows.entries (left g c) c.args.place c.self.invariant.rows refl)
    (c.without-after.ensures.entries ∙ ap (without_entry c.args.place) c.busy-2.ensures.value
    ∙ busy_without c.args.place c.self.inside.rows.entries)

boards_differ : (g : Over) (c : In_ok-difference g)
    → IsDifference (length c.self.inside.shelf) (length c.self.inside.shelf) (boards_in c.self.inside.shelf (map entry_sight c.self.inside.rows.entries))
    (boards_in c.self.inside.shelf (map entry_sight (left g c))) c.in_ok-difference.difference.gone_boards c.in_ok-difference.difference.new_boards
boards_differ g c =
    difference_is c.self.inside.shelf c.self.inside.shelf c.of-before.result c.without-after.result c.self.inside.rows.entries (left g c)
    c.in_ok-difference.difference.gone_boards c.in_ok-difference.difference.new_boards (seen_before g c) (seen_behind g c) c.in_ok-difference.ensures

-- ---- the items

-- the items behind the step follow those before it
items_continue : (g : Over) (c : In_ok-difference g) → Continues c.self.inside.shelf c.self.inside.keep.kept c.in_ok-difference.difference
    c.without-after.result c.self.inside.stock.items
    (items_with c.self.inside.shelf c.self.inside.keep.kept c.in_ok-difference.difference.new_boards (left g c))
items_continue g c =
    let order : are_by_place c.self.inside.rows.entries ≡ true = c.in-Some.ensures.order in
    let works = busy_at (find (is_entry_at c.args.place) c.args.self.now.entries) c.in-Some.entry.now
    (c.in-Some.ensures.value ∙ ap (λ (view : WatchView). find (is_entry_at c.args.place) view.entries) c.self.view_is) c.requires in
    let found = busy_found c.args.place c.in-Some.entry.now c.self.inside.rows.entries (sym c.in-Some.ensures.value) works in
    let gone = sym (busy_without c.args.place c.self.inside.rows.entries) in
    let among = unplug_among c.args.place c.in-Some.entry.now (busy c.self.inside.rows.entries) (busy c.self.inside.rows.entries) (busy (left g c))
    (ap are_by_place (sym c.busy.ensures.value) ∙ c.busy.ensures.order) found refl gone in
    let apart = subst (AllByRecursion (λ (each : Entry). is_entry_at each.place c.in-Some.entry.now ≡ false)) (sym gone)
    (gone_apart c.args.place c.in-Some.entry.now (busy c.self.inside.rows.entries) found) in
    unplug_continues c.self.inside.shelf c.self.inside.keep.kept c.self.inside.rows.entries (left g c) c.in_ok-difference.difference order
    (without_entry_by_place c.args.place c.self.inside.rows.entries order) (boards_differ g c) c.self.inside.totals c.self.inside.stock.items
    c.self.invariant.stock c.without-after.result (seen_behind g c) c.in-Some.entry.now among apart

pub stage_items-requires : goal.stage_items-requires
stage_items-requires g c = (_, items_continue g (goal.at.stage_items-requires g c).In_ok-difference)

-- ---- want of memory

pub invariant_of-self-in_err-difference : goal.invariant_of-self-in_err-difference
invariant_of-self-in_err-difference g c =
    left_sound c.self.inside _ c.self.invariant refl c.in_ok-next.ensures.ok refl refl (λ number. refl) refl refl (omega arith)

pub invariant_of-self-in_err-items : goal.invariant_of-self-in_err-items
invariant_of-self-in_err-items g c =
    left_sound c.self.inside _ c.self.invariant refl c.in_ok-next.ensures.ok refl refl (λ number. refl) refl c.stage_items.ensures.items (omega arith)

pub invariant_of-self-in_err-gone : goal.invariant_of-self-in_err-gone
invariant_of-self-in_err-gone g c =
    left_sound c.self.inside _ c.self.invariant refl c.in_ok-next.ensures.ok refl refl
    c.stage_changes.ensures.kept refl c.stage_items.ensures.items c.stage_changes.ensures.more

pub returns-in_err-items-clause-same : goal.returns-in_err-items-clause-same
returns-in_err-items-clause-same g c =
    on_err c.from_residual-in_err-items.result
    (left_same (view_of c.self.inside) _ _ c.self.view_is refl refl refl (λ number. refl) refl, record { names = refl; slots = refl })

pub returns-in_err-gone-clause-same : goal.returns-in_err-gone-clause-same
returns-in_err-gone-clause-same g c =
    on_err c.from_residual-in_err-gone.result (
      left_same (view_of c.self.inside) _ _ c.self.view_is refl refl refl c.stage_changes.ensures.kept c.stage_changes.ensures.changes,
      c.stage_changes.ensures.sensors,
    )

-- ---- what is told

pub tell_changes-requires-clause-staged : goal.tell_changes-requires-clause-staged
tell_changes-requires-clause-staged g c =
    let compared = (goal.at.tell_changes-requires-clause-staged g c).In_ok-difference in
    let differs = boards_differ g compared in
    staged_within _ _ _ _ _ _ _ differs c.in_ok-gone.ensures.staged

pub tell_changes-requires-clause-gone : goal.tell_changes-requires-clause-gone
tell_changes-requires-clause-gone g c =
    let compared = (goal.at.tell_changes-requires-clause-gone g c).In_ok-difference in
    let differs = boards_differ g compared in
    gone_within _ _ _ _ _ _ _ differs c.in_ok-gone.ensures.gone

-- ---- what is known once all is taken over

abbrev before : (g : Over) (c : After-commit-2 g) → WatchView
before g c = view_of c.self.inside

abbrev behind : (g : Over) (c : After-commit-2 g) → List Entry → WatchView
behind g c there = record {
  configs = c.self.inside.shelf;
  entries = there;
  plugged = c.self.inside.plugged;
  kept = c.tell_changes.new.keep.kept;
  changes = c.tell_items.new.changes.items;
}

abbrev items_then : (g : Over) (c : After-commit-2 g) → List Entry → List Item
items_then g c there = items_with c.self.inside.shelf c.self.inside.keep.kept c.in_ok-difference.difference.new_boards there

module _ (g : Over) (c : After-commit-2 g) where
  abbrev there : List Entry
  there = without_entry c.args.place c.self.inside.rows.entries

  -- the items that are staged are those behind the step
  staged : Continues c.self.inside.shelf c.self.inside.keep.kept c.in_ok-difference.difference c.without-after.result c.self.inside.stock.items
      (items_then g c there) → c.stage_items.new.stock.staged ≡ Some (items_then g c c.unplug.new.self.entries)
  staged continue =
      c.in_ok-items.ensures.staged _ continue ∙ ap (λ (there : List Entry). Some (items_then g c there)) (sym c.unplug.ensures.entries)

  next : IsDifference (length c.self.inside.shelf) (length c.self.inside.shelf) (boards_in c.self.inside.shelf (map entry_sight c.self.inside.rows.entries))
      (boards_in c.self.inside.shelf (map entry_sight there)) c.in_ok-difference.difference.gone_boards c.in_ok-difference.difference.new_boards
      → c.stage_items.new.stock.staged ≡ Some (items_then g c c.unplug.new.self.entries)
      → IsNext (before g c) (behind g c c.unplug.new.self.entries) c.in-Ok.totals (items_then g c c.unplug.new.self.entries) c.in_ok-items.items.gone
      c.in_ok-items.items.new
  next differs are_staged =
      let order : are_by_place c.self.inside.rows.entries ≡ true = c.in-Some.ensures.order in
      let order_then = without_entry_by_place c.args.place c.self.inside.rows.entries order in
      let now = c.unplug.ensures.entries in
      let tells = tells_those c.self.inside.shelf c.in_ok-difference.difference.gone_boards c.in_ok-difference.difference.new_boards c.in_ok-gone.gone
      c.stage_changes.new.keep.staged _ _ _ c.in_ok-gone.ensures.gone c.in_ok-gone.ensures.staged c.tell_changes.ensures.told in
      subst (λ (there : List Entry). IsNext (before g c) (behind g c there) c.in-Ok.totals (items_then g c there) c.in_ok-items.items.gone
      c.in_ok-items.items.new) (sym now)
      (taken_over (before g c) (behind g c there) [] c.in_ok-difference.difference.gone_boards c.in_ok-difference.difference.new_boards
      c.stage_changes.new.keep.kept c.tell_changes.new.keep.kept c.tell_changes.new.changes.items c.self.inside.totals c.in-Ok.totals
      c.self.inside.stock.items _ c.in_ok-items.items (sym (append-nil c.self.inside.shelf)) c.self.invariant.stock differs c.stage_changes.ensures.kept
      tells refl
      (counted_then c.self.inside.shelf c.self.inside.rows.entries there c.in_ok-difference.difference.gone_boards
      c.in_ok-difference.difference.new_boards c.self.inside.totals c.in-Ok.totals order order_then differs c.self.invariant.stock.counted
      c.in-Ok.ensures.0) (ap limit_of c.in-Ok.ensures.0 ∙ c.in-Ok.ensures.1) refl
      (told_of c.self.inside.stock.items c.in_ok-items.items c.stage_items.new.stock.staged _
      (are_staged ∙ ap (λ (there : List Entry). Some (items_then g c there)) now) c.in_ok-items.ensures.tells)
      c.tell_items.ensures.items)

pub invariant_of-self-2 : goal.invariant_of-self-2
invariant_of-self-2 g c =
    let done = (goal.at.invariant_of-self-2 g c).After-commit-2 in
    let compared = (goal.at.invariant_of-self-2 g c).In_ok-difference in
    let are_staged = staged g done (items_continue g compared) in
    let set = set_after (UnplugEvent c.args.place) c.self.inside.set c.prepare_unplug.new.self c.commit.new.self c.in_ok-next.ensures.ok c.commit.ensures in
    record {
      rules = set.0 ∙ c.self.invariant.rules;
      rows = set.1 ∙ rows_unplugged c.self.inside.set.rows c.self.inside.rows.entries c.unplug.new.self.entries c.args.place c.self.invariant.rows
          c.unplug.ensures.entries;
      none = none_left c.self.inside.plugged c.self.inside.rows.entries c.unplug.new.self.entries c.args.place c.self.invariant.none
          c.unplug.ensures.entries;
      stock = subst (IsStocked c.self.inside.shelf c.unplug.new.self.entries c.tell_changes.new.keep.kept c.in-Ok.totals) (sym
          (stock_is c.stage_items.new.stock.staged _ c.commit-2.new.self.items are_staged c.commit-2.ensures.items))
          (next g done (boards_differ g compared) are_staged).stocked;
      room = omega (arith, c.self.invariant.room, c.stage_changes.ensures.more, c.tell_changes.ensures.capacity, c.tell_items.ensures.capacity);
    }

pub returns-clause-ok : goal.returns-clause-ok
returns-clause-ok g c =
    let done = (goal.at.returns-clause-ok g c).After-commit-2 in
    let compared = (goal.at.returns-clause-ok g c).In_ok-difference in
    let is = next g done (boards_differ g compared) (staged g done (items_continue g compared)) in
    let new = behind g done c.unplug.new.self.entries in
    let follows = settles (before g done) new c.in_ok-items.items.gone c.in_ok-items.items.new c.args.sensors.now c.stage_changes.new.sensors
    c.settle_sensors.new.sensors is.goes is.comes c.stage_changes.ensures.sensors c.settle_sensors.ensures.settled c.settle_sensors.ensures.slots in
    subst (λ (view : WatchView). RemovesFru c.args.place view new × Settles view new c.args.sensors.now c.settle_sensors.new.sensors) c.self.view_is (
      record {
        configs = refl;
        entries = c.unplug.ensures.entries;
        plugged = refl;
        moves = is.moves;
      },
      follows,
    )

pub unreachable-requires : goal.unreachable-requires
unreachable-requires g c =
    busy_none (find (is_entry_at c.args.place) c.args.self.now.entries)
    (sym (ap (option_map (λ entry. entry.now)) c.in_default.is) ∙ c.entry.ensures.value
    ∙ ap (λ (view : WatchView). find (is_entry_at c.args.place) view.entries) c.self.view_is) c.requires

-- where a FRU is taken away no limit is passed
pub unreachable-requires-in-Err : goal.unreachable-requires-in-Err
unreachable-requires-in-Err g c =
    let order : are_by_place c.self.inside.rows.entries ≡ true = c.in-Some.ensures.order in
    let compared = (goal.at.unreachable-requires-in-Err g c).In_ok-difference in
    let differs = boards_differ g compared in
    let totals = totals_after c.self.inside.shelf c.self.inside.totals c.in_ok-difference.difference.gone_boards
    c.in_ok-difference.difference.new_boards in
    none_passed c.self.inside.shelf c.self.inside.rows.entries c.self.inside.keep.kept c.self.inside.totals totals c.self.inside.stock.items c.args.place
    c.in-Err.field-0 c.self.invariant.stock
    (counted_then c.self.inside.shelf c.self.inside.rows.entries (without_entry c.args.place c.self.inside.rows.entries)
    c.in_ok-difference.difference.gone_boards c.in_ok-difference.difference.new_boards c.self.inside.totals totals order
    (without_entry_by_place c.args.place c.self.inside.rows.entries order) differs c.self.invariant.stock.counted refl) c.in-Err.ensures

-- ---- the work

counted_within : (g : Over) (c : In_ok-next g) → IsWithin c.args.steps.now c.prepare_unplug.new.steps (most_evals c.args.self.now.configs)
counted_within g c =
    within_rules (UnplugEvent c.args.place) c.args.steps.now c.prepare_unplug.new.steps c.self.inside.set.rules c.self.inside.set.rows
    c.args.self.now.configs (c.self.invariant.rules ∙ ap (λ (view : WatchView). rules_of view.configs) c.self.view_is) c.in_ok-next.ensures.counted

pub returns-in_err-next-clause-counted : goal.returns-in_err-next-clause-counted
returns-in_err-next-clause-counted g c =
    within_rules (UnplugEvent c.args.place) c.args.steps.now c.prepare_unplug.new.steps c.self.inside.set.rules c.self.inside.set.rows
    c.args.self.now.configs (c.self.invariant.rules ∙ ap (λ (view : WatchView). rules_of view.configs) c.self.view_is) c.in_err-next.ensures.counted

pub returns-in_err-difference-clause-counted : goal.returns-in_err-difference-clause-counted
returns-in_err-difference-clause-counted g c = counted_within g (goal.at.returns-in_err-difference-clause-counted g c).In_ok-next

pub returns-in_err-items-clause-counted : goal.returns-in_err-items-clause-counted
returns-in_err-items-clause-counted g c = counted_within g (goal.at.returns-in_err-items-clause-counted g c).In_ok-next

pub returns-in_err-gone-clause-counted : goal.returns-in_err-gone-clause-counted
returns-in_err-gone-clause-counted g c = counted_within g (goal.at.returns-in_err-gone-clause-counted g c).In_ok-next

pub returns-clause-counted : goal.returns-clause-counted
returns-clause-counted g c = counted_within g (goal.at.returns-clause-counted g c).In_ok-next
