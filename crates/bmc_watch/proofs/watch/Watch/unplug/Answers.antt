use Rattle.std.proofs.Common.{arith, ◌∙◌, ℕ, map, Option, None, refl, ap, sym, subst}
use Rattle.probe_lang.specs.Presents.{holds_place}
use Rattle.found_set.specs.Rows.{row_of}
use Rattle.found_set.proofs.EventsLemmas.{none_within}
use Rattle.bmc_report.specs.declared.refusal.Refusal.{Refusal}
use Rattle.bmc_machine.specs.Histories.{Unplug}
use Rattle.bmc_watch.specs.Insides.{view_of}
use Rattle.bmc_watch.specs.Settling.{Settles, SettlesUnless}
use Rattle.bmc_watch.specs.Watches.{WatchView}
use Rattle.bmc_watch.specs.Steps.{Tries}
use Rattle.bmc_watch.proofs.StepsLemmas.{not_present, unplugged}
use Rattle.bmc_watch.proofs.BusyLemmas.{busy_among}
use Rattle.bmc_watch.proofs.IdleLemmas.{idle_boards, idle_moves, idle_settles}
use Rattle.bmc_watch.proofs.EventsLemmas.{unplug_among}
use Rattle.bmc_watch.proofs.EventsLemmas.{none_left}
use Rattle.bmc_watch.proofs.StockLemmas.{idle_stocked}
use Rattle.bmc_watch.specs.Counting.{most_evals}
use Rattle.bmc_watch.proofs.watch.Watch.unplug.Goals as goal

pub returns-in_default-clause-tried : goal.returns-in_default-clause-tried
returns-in_default-clause-tried g c =
    subst (λ (refusal : Option Refusal). Tries c.args.self.now (Unplug c.args.place) refusal c.refuse.new.self
    × SettlesUnless refusal c.args.self.now c.refuse.new.self c.args.sensors.now c.args.sensors.now) (sym c.refuse.ensures.reason) (
      not_present c.args.self.now c.refuse.new.self c.args.place
          (ap (λ (view : WatchView). holds_place view.entries c.args.place) (sym c.self.view_is) ∙ sym c.in_default.ensures.held) c.refuse.ensures.left,
      refl,
    )

pub returns-in_ok-remove_busy-clause-tried : goal.returns-in_ok-remove_busy-clause-tried
returns-in_ok-remove_busy-clause-tried g c = (
  unplugged c.args.self.now c.remove_busy.new.self c.args.place
      (ap (λ (view : WatchView). holds_place view.entries c.args.place) (sym c.self.view_is) ∙ sym c.in-Some.ensures.held) c.in_ok-remove_busy.ensures.ok.0,
  c.in_ok-remove_busy.ensures.ok.1,
)

-- ---- a FRU without hits

pub invariant_of-self : goal.invariant_of-self
invariant_of-self g c =
    let among = unplug_among c.args.place c.in-Some.entry.now c.self.inside.rows.entries c.self.inside.rows.entries c.unplug.new.self.entries
    c.in-Some.ensures.order (sym c.in-Some.ensures.value) refl c.unplug.ensures.entries in
    let idle = sym c.is_idle.ensures ∙ c.if-is_idle.true in
    let works = busy_among c.in-Some.entry.now c.unplug.new.self.entries c.self.inside.rows.entries among idle in
    let same = λ (number : ℕ).
    sym (idle_boards c.self.inside.shelf c.in-Some.entry.now c.unplug.new.self.entries c.self.inside.rows.entries among idle number) in
    record {
      rules = c.self.invariant.rules;
      rows = c.self.invariant.rows ∙ ap (map row_of) works;
      none = none_left c.self.inside.plugged c.self.inside.rows.entries c.unplug.new.self.entries c.args.place c.self.invariant.none c.unplug.ensures.entries;
      stock = idle_stocked c.self.inside.shelf c.self.inside.rows.entries c.unplug.new.self.entries c.self.inside.keep.kept c.self.inside.totals
          c.self.inside.stock.items (sym works) same c.self.invariant.stock;
      room = omega (arith, c.self.invariant.room, c.clear.ensures.capacity);
    }

pub returns-then-is_idle-clause-tried : goal.returns-then-is_idle-clause-tried
returns-then-is_idle-clause-tried g c =
    let old = view_of c.self.inside in
    let new : WatchView = record {
      configs = c.self.inside.shelf;
      entries = c.unplug.new.self.entries;
      plugged = c.self.inside.plugged;
      kept = c.self.inside.keep.kept;
      changes = c.clear.new.self.items;
    } in
    let among = unplug_among c.args.place c.in-Some.entry.now c.self.inside.rows.entries c.self.inside.rows.entries c.unplug.new.self.entries
    c.in-Some.ensures.order (sym c.in-Some.ensures.value) refl c.unplug.ensures.entries in
    let idle = sym c.is_idle.ensures ∙ c.if-is_idle.true in
    let works = busy_among c.in-Some.entry.now c.unplug.new.self.entries c.self.inside.rows.entries among idle in
    let same = λ (number : ℕ).
    sym (idle_boards c.self.inside.shelf c.in-Some.entry.now c.unplug.new.self.entries c.self.inside.rows.entries among idle number) in
    subst (λ (view : WatchView). Tries view (Unplug c.args.place) None new × Settles view new c.args.sensors.now c.args.sensors.now) c.self.view_is (
      unplugged old new c.args.place (sym c.in-Some.ensures.held) (record {
        configs = refl;
        entries = c.unplug.ensures.entries;
        plugged = refl;
        moves = idle_moves old new refl (sym works) same refl c.clear.ensures.items;
      }),
      idle_settles old new c.args.sensors.now refl (sym works) same refl,
    )

-- ---- the work

pub returns-in_default-clause-counted : goal.returns-in_default-clause-counted
returns-in_default-clause-counted g c =
    none_within c.args.steps.now (most_evals c.args.self.now.configs)

pub returns-then-is_idle-clause-counted : goal.returns-then-is_idle-clause-counted
returns-then-is_idle-clause-counted g c =
    none_within c.args.steps.now (most_evals c.args.self.now.configs)
