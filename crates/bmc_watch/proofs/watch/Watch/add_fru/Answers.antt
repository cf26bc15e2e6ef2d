use Rattle.std.proofs.Common.{arith, ◌≡◌, ◌∙◌, map, true, false, refl, ap, sym, subst}
use Rattle.std.specs.Result.{is_err}
use Rattle.probe_lang.specs.declared.rows.Entry.{Entry}
use Rattle.bmc_watch.specs.Insides.{view_of}
use Rattle.bmc_watch.specs.Settling.{Settles}
use Rattle.bmc_watch.specs.Watches.{WatchView}
use Rattle.bmc_watch.specs.Steps.{AddsFru}
use Rattle.probe_lang.specs.Presents.{with_entry}
use Rattle.fru_rows.specs.Idle.{is_idle}
use Rattle.found_set.specs.Rows.{row_of}
use Rattle.found_set.proofs.EventsLemmas.{none_within}
use Rattle.match_rows.specs.Matching.{pattern_count}
use Rattle.bmc_watch.proofs.BusyLemmas.{busy_among}
use Rattle.bmc_watch.proofs.IdleLemmas.{idle_boards, idle_moves, idle_settles}
use Rattle.bmc_watch.proofs.EventsLemmas.{plug_among}
use Rattle.bmc_watch.proofs.StockLemmas.{idle_stocked, no_refusal}
use Rattle.bmc_watch.specs.Counting.{most_evals, Tests}
use Rattle.bmc_watch.proofs.CountingLemmas.{err_tested, fru_tested}
use Rattle.bmc_watch.proofs.watch.Watch.add_fru.Goals as goal

pub invariant_of-self-2 : goal.invariant_of-self-2
invariant_of-self-2 g c =
    let now : c.plug.new.self.entries ≡ with_entry c.in_ok-boxed.boxed.value c.self.inside.rows.entries =
    c.plug.ensures ∙ ap (with_entry c.in_ok-boxed.boxed.value) c.in_ok-reserve.ensures.entries in
    let among = plug_among c.in_ok-boxed.boxed.value c.self.inside.rows.entries c.self.inside.rows.entries c.plug.new.self.entries refl now in
    let idle = ap is_idle (sym c.deref.ensures) ∙ sym c.is_idle.ensures ∙ c.if-not-is_idle.false in
    let works = busy_among c.in_ok-boxed.boxed.value c.self.inside.rows.entries c.plug.new.self.entries among idle in
    record {
      rules = c.self.invariant.rules;
      rows = c.self.invariant.rows ∙ sym (ap (map row_of) works);
      none = refl;
      stock = idle_stocked c.self.inside.shelf c.self.inside.rows.entries c.plug.new.self.entries c.self.inside.keep.kept c.self.inside.totals
          c.self.inside.stock.items works
          (λ number. idle_boards c.self.inside.shelf c.in_ok-boxed.boxed.value c.self.inside.rows.entries c.plug.new.self.entries among idle number)
          c.self.invariant.stock;
      room = omega (arith, c.self.invariant.room, c.clear.ensures.capacity);
    }

pub returns-clause-ok : goal.returns-clause-ok
returns-clause-ok g c =
    let old = view_of c.self.inside in
    let new : WatchView = record {
      configs = c.self.inside.shelf;
      entries = c.plug.new.self.entries;
      plugged = true;
      kept = c.self.inside.keep.kept;
      changes = c.clear.new.self.items;
    } in
    let now : c.plug.new.self.entries ≡ with_entry c.in_ok-boxed.boxed.value c.self.inside.rows.entries =
    c.plug.ensures ∙ ap (with_entry c.in_ok-boxed.boxed.value) c.in_ok-reserve.ensures.entries in
    let among = plug_among c.in_ok-boxed.boxed.value c.self.inside.rows.entries c.self.inside.rows.entries c.plug.new.self.entries refl now in
    let idle = ap is_idle (sym c.deref.ensures) ∙ sym c.is_idle.ensures ∙ c.if-not-is_idle.false in
    let works = busy_among c.in_ok-boxed.boxed.value c.self.inside.rows.entries c.plug.new.self.entries among idle in
    let stocked = idle_stocked c.self.inside.shelf c.self.inside.rows.entries c.plug.new.self.entries c.self.inside.keep.kept c.self.inside.totals
    c.self.inside.stock.items works
    (λ number. idle_boards c.self.inside.shelf c.in_ok-boxed.boxed.value c.self.inside.rows.entries c.plug.new.self.entries among idle number)
    c.self.invariant.stock in
    subst (λ (view : WatchView). AddsFru c.args.place c.args.fru view new × Settles view new c.args.sensors.now c.args.sensors.now) c.self.view_is (
      record {
        configs = refl;
        entries = now ∙ ap (λ (entry : Entry). with_entry entry c.self.inside.rows.entries)
            (c.in_ok-boxed.ensures.ok ∙ c.in_ok-made.ensures.ok);
        plugged = refl;
        fits = no_refusal c.self.inside.shelf c.plug.new.self.entries c.self.inside.keep.kept c.self.inside.totals c.self.inside.stock.items stocked;
        moves =
            idle_moves old new refl works (λ number. idle_boards c.self.inside.shelf c.in_ok-boxed.boxed.value c.self.inside.rows.entries
            c.plug.new.self.entries among idle number) refl c.clear.ensures.items;
      },
      idle_settles old new c.args.sensors.now refl works (λ number. idle_boards c.self.inside.shelf c.in_ok-boxed.boxed.value c.self.inside.rows.entries
          c.plug.new.self.entries among idle number) refl,
    )

-- ---- the work

pub returns-in_err-made-clause-counted : goal.returns-in_err-made-clause-counted
returns-in_err-made-clause-counted g c =
    subst (λ (view : WatchView). Tests (is_err c.from_residual.result) (pattern_count view.configs) (most_evals view.configs)
    c.args.steps.now c.make.new.steps) c.self.view_is
    (err_tested _ c.from_residual.result c.args.steps.now c.make.new.steps c.self.inside.shelf c.from_residual.ensures.1
    c.in_err-made.ensures.limit)

pub returns-in_err-boxed-clause-counted : goal.returns-in_err-boxed-clause-counted
returns-in_err-boxed-clause-counted g c =
    fru_tested (is_err c.from_residual-in_err-boxed.result) c.args.steps.now c.make.new.steps c.make.new.steps c.args.self.now.configs c.self.inside.shelf
    (ap (λ (view : WatchView). view.configs) c.self.view_is) c.in_ok-made.ensures.counted (none_within c.make.new.steps (most_evals c.args.self.now.configs))

pub returns-in_err-reserve-clause-counted : goal.returns-in_err-reserve-clause-counted
returns-in_err-reserve-clause-counted g c =
    fru_tested (is_err c.from_residual-in_err-reserve.result) c.args.steps.now c.make.new.steps c.make.new.steps c.args.self.now.configs c.self.inside.shelf
    (ap (λ (view : WatchView). view.configs) c.self.view_is) c.in_ok-made.ensures.counted (none_within c.make.new.steps (most_evals c.args.self.now.configs))

pub returns-clause-counted : goal.returns-clause-counted
returns-clause-counted g c =
    fru_tested false c.args.steps.now c.make.new.steps c.make.new.steps c.args.self.now.configs c.self.inside.shelf
    (ap (λ (view : WatchView). view.configs) c.self.view_is) c.in_ok-made.ensures.counted (none_within c.make.new.steps (most_evals c.args.self.now.configs))

pub returns-then-not-is_idle-clause-counted : goal.returns-then-not-is_idle-clause-counted
returns-then-not-is_idle-clause-counted g c =
    fru_tested (is_err c.add_busy.result) c.args.steps.now c.make.new.steps c.add_busy.new.steps c.args.self.now.configs c.self.inside.shelf
    (ap (λ (view : WatchView). view.configs) c.self.view_is) c.in_ok-made.ensures.counted c.add_busy.ensures.counted
