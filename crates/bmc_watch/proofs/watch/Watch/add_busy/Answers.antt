use Rattle.std.proofs.Common.{arith, ◌≡◌, ◌∙◌, List, [], true, false, Option, Some, map, length, refl}
use Rattle.std.proofs.Common.{ap, ap₂, sym, subst, append-nil, inl}
use Rattle.cfg_json.specs.declared.item.Item.{Item}
use Rattle.std.specs.Prelude.{option_map}
use Rattle.bmc_base.specs.Steps.{IsWithin}
use Rattle.probe_lang.specs.Sights.{entry_sight}
use Rattle.probe_lang.specs.declared.rows.Entry.{Entry}
use Rattle.probe_lang.specs.Presents.{with_entry, are_by_place, holds_place}
use Rattle.match_rows.specs.Matching.{entry_of}
use Rattle.fru_rows.specs.Idle.{is_idle, busy}
use Rattle.found_set.specs.Found.{facts}
use Rattle.found_set.specs.Sets.{SetView}
use Rattle.found_set.specs.declared.next_facts.NextFacts.{NextFacts}
use Rattle.found_set.specs.Rows.{row_of, sights_of}
use Rattle.found_set.specs.Events.{PlugEvent}
use Rattle.found_set.proofs.EventsLemmas.{none_within}
use Rattle.inventory.specs.Boards.{boards_in, rules_of}
use Rattle.inventory.specs.Limits.{limit_of, passed_limit, totals_after}
use Rattle.inventory.specs.Lists.{keys_of}
use Rattle.bmc_report.specs.declared.refusal.Refusal.{Refusal}
use Rattle.bmc_machine.specs.Refusals.{limit_refusal}
use Rattle.bmc_watch.specs.Insides.{IsStocked, view_of}
use Rattle.bmc_watch.specs.Changes.{IsDifference}
use Rattle.bmc_watch.specs.ItemSteps.{Continues}
use Rattle.bmc_watch.specs.Settling.{Settles, SettlesUnless}
use Rattle.bmc_watch.specs.Watches.{WatchView, view_refusal}
use Rattle.bmc_watch.specs.Steps.{AddsFru, AddsUnless, with_fru}
use Rattle.bmc_watch.proofs.EventsLemmas.{IsSeen, on_err, not_ok, new_place, known_entry, free_there, plug_among, busy_plugged, seen, difference_is}
use Rattle.bmc_watch.proofs.EventsLemmas.{gone_within, staged_within, tells_those}
use Rattle.bmc_watch.proofs.EventsLemmas.{set_after, rows_plugged}
use Rattle.match_rows.proofs.RowsLemmas.{with_entry_by_place}
use Rattle.bmc_watch.proofs.BusyLemmas.{busy_with}
use Rattle.bmc_watch.proofs.ItemsLemmas.{busy_apart, free_apart}
use Rattle.bmc_watch.proofs.StockLemmas.{IsNext, counted_then, items_with, limit_named, no_refusal}
use Rattle.bmc_watch.proofs.StockLemmas.{plug_continues, stock_is, settles, taken_over, told_of}
use Rattle.bmc_watch.specs.Counting.{most_evals}
use Rattle.bmc_watch.proofs.CountingLemmas.{within_rules}
use Rattle.bmc_watch.proofs.LeftLemmas.{left_same, left_sound}
use Rattle.bmc_watch.proofs.watch.Watch.add_busy.Given.{Over}
use Rattle.bmc_watch.proofs.watch.Watch.add_busy.Goals.{In_ok-next, In_ok-difference, After-commit-2}
use Rattle.bmc_watch.proofs.watch.Watch.add_busy.Goals as goal

pub prepare_plug-requires-clause-new : goal.prepare_plug-requires-clause-new
prepare_plug-requires-clause-new g c =
    new_place c.self.inside.set.rows c.self.inside.rows.entries c.deref-entry.result.now c.self.inside.shelf c.args.boxed.value.place
    c.args.boxed.value.fru c.self.invariant.rows
    (c.deref-entry.ensures ∙ c.requires.known ∙ ap (λ (view : WatchView). entry_of view.configs c.args.boxed.value.place c.args.boxed.value.fru) (sym
    c.self.view_is)) (ap (λ (view : WatchView). holds_place view.entries c.args.boxed.value.place) c.self.view_is ∙ c.requires.free)

pub prepare_plug-requires-clause-known : goal.prepare_plug-requires-clause-known
prepare_plug-requires-clause-known g c =
    known_entry c.self.inside.set.rules c.self.inside.shelf c.deref-entry.result.now c.args.boxed.value.place c.args.boxed.value.fru c.self.invariant.rules
    (c.deref-entry.ensures ∙ c.requires.known ∙ ap (λ (view : WatchView). entry_of view.configs c.args.boxed.value.place c.args.boxed.value.fru) (sym
    c.self.view_is))

pub with-after-requires-clause-free : goal.with-after-requires-clause-free
with-after-requires-clause-free g c =
    free_there c.args.boxed.value c.reserve.new.self.entries _
    (ap (λ (there : List Entry). holds_place there c.args.boxed.value.place) c.in_ok-reserve.ensures.entries
    ∙ ap (λ (view : WatchView). holds_place view.entries c.args.boxed.value.place) c.self.view_is ∙ c.requires.free) c.busy-2.ensures.value

pub difference_by-requires : goal.difference_by-requires
difference_by-requires g c =
    inl (plug_among c.deref-entry.result.now (busy c.reserve.new.self.entries) c.of-before.result.entries c.with-after.result.entries
    (c.of-before.ensures.entries ∙ c.busy.ensures.value)
    (c.with-after.ensures.entries ∙ ap₂ with_entry (sym c.deref-entry.ensures) c.busy-2.ensures.value))

-- ---- what is known once the boards are compared

module _ (g : Over) (c : In_ok-difference g) where
  abbrev here : List Entry
  here = c.self.inside.rows.entries

  abbrev there : List Entry
  there = with_entry c.args.boxed.value here

  order : are_by_place here ≡ true
  order = ap are_by_place (sym c.in_ok-reserve.ensures.entries) ∙ c.busy.ensures.all

  free : holds_place here c.args.boxed.value.place ≡ false
  free = ap (λ (view : WatchView). holds_place view.entries c.args.boxed.value.place) c.self.view_is ∙ c.requires.free

  order_there : are_by_place there ≡ true
  order_there = with_entry_by_place c.args.boxed.value here order free

  seen_before : IsSeen c.self.inside.shelf here c.of-before.result
  seen_before =
      seen c.self.inside.shelf here c.of-before.result c.self.inside.set.rules c.self.inside.set.rows
      (c.of-before.ensures.facts ∙ c.facts.ensures.current ∙ ap (λ (set : SetView). facts set.rules (sights_of set.rows)) c.in_ok-next.ensures.ok)
      c.self.invariant.rules c.self.invariant.rows (c.of-before.ensures.entries ∙ c.busy.ensures.value ∙ ap busy c.in_ok-reserve.ensures.entries)

  seen_behind : IsSeen c.self.inside.shelf there c.with-after.result
  seen_behind =
      seen c.self.inside.shelf there c.with-after.result c.self.inside.set.rules _
      (c.with-after.ensures.facts ∙ c.facts-2.ensures ∙ ap (λ (next : NextFacts). next.facts) c.in_ok-next.ensures.next) c.self.invariant.rules
      (rows_plugged c.self.inside.set.rows here there c.deref-entry.result.now c.self.invariant.rows order
      (ap is_idle c.deref-entry.ensures ∙ c.requires.busy) (ap (λ (entry : Entry). with_entry entry here) (sym c.deref-entry.ensures)))
      (busy_plugged c.deref-entry.result.now c.args.boxed.value c.reserve.new.self.entries _ c.with-after.result.entries c.deref-entry.ensures
      c.busy.ensures.all (ap is_idle c.deref-entry.ensures ∙ c.requires.busy) c.busy-2.ensures.value c.with-after.ensures.entries
      ∙ ap (λ (entries : List Entry). busy (with_entry c.args.boxed.value entries)) c.in_ok-reserve.ensures.entries)

  boards_differ : IsDifference (length c.self.inside.shelf) (length c.self.inside.shelf) (boards_in c.self.inside.shelf (map entry_sight here))
      (boards_in c.self.inside.shelf (map entry_sight there)) c.in_ok-difference.difference.gone_boards c.in_ok-difference.difference.new_boards
  boards_differ =
      difference_is c.self.inside.shelf c.self.inside.shelf c.of-before.result c.with-after.result here there
      c.in_ok-difference.difference.gone_boards c.in_ok-difference.difference.new_boards seen_before seen_behind c.in_ok-difference.ensures

  -- the items behind the step follow those before it
  items_continue : Continues c.self.inside.shelf c.self.inside.keep.kept c.in_ok-difference.difference c.with-after.result c.self.inside.stock.items
      (items_with c.self.inside.shelf c.self.inside.keep.kept c.in_ok-difference.difference.new_boards there)
  items_continue =
      let among = plug_among c.args.boxed.value (busy here) (busy here) (busy there) refl (sym (busy_with c.args.boxed.value here order c.requires.busy)) in
      let apart = busy_apart c.args.boxed.value here (free_apart c.args.boxed.value here free) in
      plug_continues c.self.inside.shelf c.self.inside.keep.kept here there c.in_ok-difference.difference order order_there boards_differ
      c.self.inside.totals c.self.inside.stock.items c.self.invariant.stock c.with-after.result seen_behind c.args.boxed.value among apart

-- ---- a limit

pub returns-in-Err-clause-ok : goal.returns-in-Err-clause-ok
returns-in-Err-clause-ok g c =
    let compared = (goal.at.returns-in-Err-clause-ok g c).In_ok-difference in
    let totals = totals_after c.self.inside.shelf c.self.inside.totals c.in_ok-difference.difference.gone_boards
    c.in_ok-difference.difference.new_boards in
    let counted = counted_then c.self.inside.shelf c.self.inside.rows.entries (with_entry c.args.boxed.value c.self.inside.rows.entries)
    c.in_ok-difference.difference.gone_boards c.in_ok-difference.difference.new_boards c.self.inside.totals totals (order g compared)
    (order_there g compared) (boards_differ g compared)
    c.self.invariant.stock.counted refl in
    let limit = limit_named c.self.inside.shelf (with_entry c.args.boxed.value c.self.inside.rows.entries) totals c.in-Err.fault counted c.in-Err.ensures
    ∙ ap Some (sym c.limit_refused.ensures) in
    let known = c.requires.known ∙ ap (λ (view : WatchView). entry_of view.configs c.args.boxed.value.place c.args.boxed.value.fru) (sym c.self.view_is) in
    subst (λ (refusal : Option Refusal). AddsUnless refusal c.args.boxed.value.place c.args.boxed.value.fru c.args.self.now c.refuse.new.self
    × SettlesUnless refusal c.args.self.now c.refuse.new.self c.args.sensors.now c.args.sensors.now)
    (sym c.refuse.ensures.reason) (
      (
        subst
            (λ (view : WatchView). view_refusal (with_fru view c.args.boxed.value.place c.args.boxed.value.fru) ≡ Some c.limit_refused.result)
            c.self.view_is
            (ap (λ (entry : Entry). option_map limit_refusal (passed_limit c.self.inside.shelf (keys_of (length c.self.inside.shelf)
            (boards_in c.self.inside.shelf (map entry_sight (with_entry entry c.self.inside.rows.entries)))))) (sym known) ∙ limit),
        c.refuse.ensures.left
            ∙ ap (λ (entries : List Entry). record {
              configs = c.self.inside.shelf;
              entries = entries;
              plugged = c.self.inside.plugged;
              kept = c.self.inside.keep.kept;
              changes = [];
            }) c.in_ok-reserve.ensures.entries
            ∙ ap (λ (view : WatchView). record view { changes = [] }) c.self.view_is,
      ),
      refl,
    )

-- ---- the items

pub stage_items-requires : goal.stage_items-requires
stage_items-requires g c = (_, items_continue g (goal.at.stage_items-requires g c).In_ok-difference)

-- ---- want of memory

pub invariant_of-self-in_err-difference : goal.invariant_of-self-in_err-difference
invariant_of-self-in_err-difference g c =
    left_sound c.self.inside _ c.self.invariant refl c.in_ok-next.ensures.ok c.in_ok-reserve.ensures.entries refl (λ number. refl) refl refl (omega arith)

pub invariant_of-self-in-Err : goal.invariant_of-self-in-Err
invariant_of-self-in-Err g c =
    left_sound c.self.inside _ c.self.invariant refl c.in_ok-next.ensures.ok c.in_ok-reserve.ensures.entries refl (λ number. refl) refl refl (omega arith)

pub invariant_of-self-in_err-items : goal.invariant_of-self-in_err-items
invariant_of-self-in_err-items g c =
    left_sound c.self.inside _ c.self.invariant refl c.in_ok-next.ensures.ok c.in_ok-reserve.ensures.entries refl
    (λ number. refl) refl c.stage_items.ensures.items (omega arith)

pub returns-in_err-difference-clause-same : goal.returns-in_err-difference-clause-same
returns-in_err-difference-clause-same g c =
    on_err c.from_residual-in_err-difference.result (
      left_same (view_of c.self.inside) _ _ c.self.view_is refl c.in_ok-reserve.ensures.entries refl (λ number. refl) refl,
      record { names = refl; slots = refl },
    )

pub returns-in_err-items-clause-same : goal.returns-in_err-items-clause-same
returns-in_err-items-clause-same g c =
    on_err c.from_residual-in_err-items.result (
      left_same (view_of c.self.inside) _ _ c.self.view_is refl c.in_ok-reserve.ensures.entries refl (λ number. refl) refl,
      record { names = refl; slots = refl },
    )

pub invariant_of-self-in_err-gone : goal.invariant_of-self-in_err-gone
invariant_of-self-in_err-gone g c =
    left_sound c.self.inside _ c.self.invariant refl c.in_ok-next.ensures.ok c.in_ok-reserve.ensures.entries refl
    c.stage_changes.ensures.kept refl c.stage_items.ensures.items c.stage_changes.ensures.more

pub returns-in_err-gone-clause-ok : goal.returns-in_err-gone-clause-ok
returns-in_err-gone-clause-ok g c = not_ok _ _ c.from_residual-in_err-gone.result c.from_residual-in_err-gone.ensures.1

pub returns-in_err-gone-clause-same : goal.returns-in_err-gone-clause-same
returns-in_err-gone-clause-same g c =
    on_err c.from_residual-in_err-gone.result (
      left_same (view_of c.self.inside) _ _ c.self.view_is refl c.in_ok-reserve.ensures.entries refl c.stage_changes.ensures.kept
          c.stage_changes.ensures.changes,
      c.stage_changes.ensures.sensors,
    )

-- ---- what is told

pub tell_changes-requires-clause-staged : goal.tell_changes-requires-clause-staged
tell_changes-requires-clause-staged g c =
    let differs = boards_differ g (goal.at.tell_changes-requires-clause-staged g c).In_ok-difference in
    staged_within _ _ _ _ _ _ _ differs c.in_ok-gone.ensures.staged

pub tell_changes-requires-clause-gone : goal.tell_changes-requires-clause-gone
tell_changes-requires-clause-gone g c =
    let differs = boards_differ g (goal.at.tell_changes-requires-clause-gone g c).In_ok-difference in
    gone_within _ _ _ _ _ _ _ differs c.in_ok-gone.ensures.gone

-- ---- what is known once all is taken over

module _ (g : Over) (c : After-commit-2 g) where
  abbrev before : WatchView
  before = view_of c.self.inside

  abbrev behind : List Entry → WatchView
  behind entries = record {
    configs = c.self.inside.shelf;
    entries = entries;
    plugged = true;
    kept = c.tell_changes.new.keep.kept;
    changes = c.tell_items.new.changes.items;
  }

  abbrev items_then : List Entry → List Item
  items_then entries = items_with c.self.inside.shelf c.self.inside.keep.kept c.in_ok-difference.difference.new_boards entries

  abbrev plugged : List Entry
  plugged = with_entry c.args.boxed.value c.self.inside.rows.entries

  now : c.plug.new.self.entries ≡ plugged
  now = c.plug.ensures ∙ ap (with_entry c.args.boxed.value) c.in_ok-reserve.ensures.entries

  -- the items that are staged are those behind the step
  staged : Continues c.self.inside.shelf c.self.inside.keep.kept c.in_ok-difference.difference c.with-after.result c.self.inside.stock.items
      (items_then plugged) → c.stage_items.new.stock.staged ≡ Some (items_then c.plug.new.self.entries)
  staged continue = c.in_ok-items.ensures.staged _ continue ∙ ap (λ (entries : List Entry). Some (items_then entries)) (sym now)

  next : are_by_place c.self.inside.rows.entries ≡ true → are_by_place plugged ≡ true
      → IsDifference (length c.self.inside.shelf) (length c.self.inside.shelf) (boards_in c.self.inside.shelf (map entry_sight c.self.inside.rows.entries))
      (boards_in c.self.inside.shelf (map entry_sight plugged)) c.in_ok-difference.difference.gone_boards c.in_ok-difference.difference.new_boards
      → c.stage_items.new.stock.staged ≡ Some (items_then c.plug.new.self.entries)
      → IsNext before (behind c.plug.new.self.entries) c.in-Ok.totals (items_then c.plug.new.self.entries) c.in_ok-items.items.gone c.in_ok-items.items.new
  next order order_then differs are_staged =
      let tells = tells_those c.self.inside.shelf c.in_ok-difference.difference.gone_boards c.in_ok-difference.difference.new_boards c.in_ok-gone.gone
      c.stage_changes.new.keep.staged _ _ _ c.in_ok-gone.ensures.gone c.in_ok-gone.ensures.staged c.tell_changes.ensures.told in
      subst (λ (entries : List Entry). IsNext before (behind entries) c.in-Ok.totals (items_then entries) c.in_ok-items.items.gone
      c.in_ok-items.items.new) (sym now)
      (taken_over before (behind plugged) [] c.in_ok-difference.difference.gone_boards c.in_ok-difference.difference.new_boards
      c.stage_changes.new.keep.kept c.tell_changes.new.keep.kept c.tell_changes.new.changes.items c.self.inside.totals c.in-Ok.totals
      c.self.inside.stock.items _ c.in_ok-items.items (sym (append-nil c.self.inside.shelf)) c.self.invariant.stock differs c.stage_changes.ensures.kept
      tells refl
      (counted_then c.self.inside.shelf c.self.inside.rows.entries plugged c.in_ok-difference.difference.gone_boards
      c.in_ok-difference.difference.new_boards c.self.inside.totals c.in-Ok.totals order order_then differs c.self.invariant.stock.counted
      c.in-Ok.ensures.0) (ap limit_of c.in-Ok.ensures.0 ∙ c.in-Ok.ensures.1) refl
      (told_of c.self.inside.stock.items c.in_ok-items.items c.stage_items.new.stock.staged _
      (are_staged ∙ ap (λ (entries : List Entry). Some (items_then entries)) now) c.in_ok-items.ensures.tells)
      c.tell_items.ensures.items)

pub invariant_of-self-2 : goal.invariant_of-self-2
invariant_of-self-2 g c =
    let done = (goal.at.invariant_of-self-2 g c).After-commit-2 in
    let compared = (goal.at.invariant_of-self-2 g c).In_ok-difference in
    let are_staged = staged g done (items_continue g compared) in
    let is = next g done (order g compared) (order_there g compared) (boards_differ g compared) are_staged in
    let set = set_after (PlugEvent (row_of c.deref-entry.result.now)) c.self.inside.set c.prepare_plug.new.self c.commit.new.self c.in_ok-next.ensures.ok
    c.commit.ensures in
    record {
      rules = set.0 ∙ c.self.invariant.rules;
      rows = set.1 ∙ rows_plugged c.self.inside.set.rows c.self.inside.rows.entries c.plug.new.self.entries c.deref-entry.result.now c.self.invariant.rows
          (order g compared) (ap is_idle c.deref-entry.ensures ∙ c.requires.busy)
          (now g done ∙ ap (λ (entry : Entry). with_entry entry c.self.inside.rows.entries) (sym c.deref-entry.ensures));
      none = refl;
      stock = subst (IsStocked c.self.inside.shelf c.plug.new.self.entries c.tell_changes.new.keep.kept c.in-Ok.totals) (sym
          (stock_is c.stage_items.new.stock.staged _ c.commit-2.new.self.items are_staged c.commit-2.ensures.items)) is.stocked;
      room = omega (arith, c.self.invariant.room, c.stage_changes.ensures.more, c.tell_changes.ensures.capacity, c.tell_items.ensures.capacity);
    }

pub returns-clause-ok : goal.returns-clause-ok
returns-clause-ok g c =
    let done = (goal.at.returns-clause-ok g c).After-commit-2 in
    let compared = (goal.at.returns-clause-ok g c).In_ok-difference in
    let is = next g done (order g compared) (order_there g compared) (boards_differ g compared) (staged g done (items_continue g compared)) in
    let new = behind g done c.plug.new.self.entries in
    let follows = settles (before g done) new c.in_ok-items.items.gone c.in_ok-items.items.new c.args.sensors.now c.stage_changes.new.sensors
    c.settle_sensors.new.sensors is.goes is.comes c.stage_changes.ensures.sensors c.settle_sensors.ensures.settled c.settle_sensors.ensures.slots in
    subst (λ (view : WatchView). AddsFru c.args.boxed.value.place c.args.boxed.value.fru view new
    × Settles view new c.args.sensors.now c.settle_sensors.new.sensors) c.self.view_is (
      record {
        configs = refl;
        entries = now g done ∙ ap (λ (entry : Entry). with_entry entry c.self.inside.rows.entries)
            (c.requires.known ∙ ap (λ (view : WatchView). entry_of view.configs c.args.boxed.value.place c.args.boxed.value.fru) (sym c.self.view_is));
        plugged = refl;
        fits = no_refusal new.configs new.entries new.kept c.in-Ok.totals _ is.stocked;
        moves = is.moves;
      },
      follows,
    )

-- ---- the work

counted_within : (g : Over) (c : In_ok-next g) → IsWithin c.args.steps.now c.prepare_plug.new.steps (most_evals c.args.self.now.configs)
counted_within g c =
    within_rules (PlugEvent (row_of c.deref-entry.result.now)) c.args.steps.now c.prepare_plug.new.steps c.self.inside.set.rules c.self.inside.set.rows
    c.args.self.now.configs (c.self.invariant.rules ∙ ap (λ (view : WatchView). rules_of view.configs) c.self.view_is) c.in_ok-next.ensures.counted

pub returns-in_err-reserve-clause-counted : goal.returns-in_err-reserve-clause-counted
returns-in_err-reserve-clause-counted g c =
    none_within c.args.steps.now (most_evals c.args.self.now.configs)

pub returns-in_err-next-clause-counted : goal.returns-in_err-next-clause-counted
returns-in_err-next-clause-counted g c =
    within_rules (PlugEvent (row_of c.deref-entry.result.now)) c.args.steps.now c.prepare_plug.new.steps c.self.inside.set.rules c.self.inside.set.rows
    c.args.self.now.configs (c.self.invariant.rules ∙ ap (λ (view : WatchView). rules_of view.configs) c.self.view_is) c.in_err-next.ensures.counted

pub returns-in_err-difference-clause-counted : goal.returns-in_err-difference-clause-counted
returns-in_err-difference-clause-counted g c = counted_within g (goal.at.returns-in_err-difference-clause-counted g c).In_ok-next

pub returns-in-Err-clause-counted : goal.returns-in-Err-clause-counted
returns-in-Err-clause-counted g c = counted_within g (goal.at.returns-in-Err-clause-counted g c).In_ok-next

pub returns-in_err-items-clause-counted : goal.returns-in_err-items-clause-counted
returns-in_err-items-clause-counted g c = counted_within g (goal.at.returns-in_err-items-clause-counted g c).In_ok-next

pub returns-in_err-gone-clause-counted : goal.returns-in_err-gone-clause-counted
returns-in_err-gone-clause-counted g c = counted_within g (goal.at.returns-in_err-gone-clause-counted g c).In_ok-next

pub returns-clause-counted : goal.returns-clause-counted
returns-clause-counted g c = counted_within g (goal.at.returns-clause-counted g c).In_ok-next
