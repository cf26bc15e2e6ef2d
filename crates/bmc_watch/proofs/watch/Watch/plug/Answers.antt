use Rattle.std.proofs.Common.{refl, false, ◌∙◌, length, Option, ap, sym, subst, arith}
use Rattle.std.specs.Prelude.{nat_le}
use Rattle.std.specs.Result.{is_ok, is_err}
use Rattle.std.proofs.lemmas.Bool.{le-leb, lt-leb}
use Rattle.probe_lang.specs.Presents.{holds_place}
use Rattle.bmc_report.specs.declared.refusal.Refusal.{Refusal}
use Rattle.bmc_machine.specs.Histories.{Plug}
use Rattle.bmc_machine.specs.Refusals.{most_frus}
use Rattle.bmc_watch.specs.Settling.{SettlesUnless}
use Rattle.bmc_watch.specs.Watches.{WatchView}
use Rattle.bmc_watch.specs.Steps.{AddsUnless, Tries}
use Rattle.bmc_watch.proofs.EventsLemmas.{if_ok_more}
use Rattle.bmc_watch.proofs.StepsLemmas.{occupied, breaks_by, broken, frus_full, plugged_unless}
use Rattle.fru_record.specs.Records.{record_of}
use Rattle.bmc_watch.proofs.CountingLemmas.{is_tested_then, plug_failed, plug_tested, plug_untested, untested_broken, untested_full, untested_held}
use Rattle.bmc_watch.proofs.watch.Watch.plug.Goals as goal

pub returns-then-is_some-clause-tried : goal.returns-then-is_some-clause-tried
returns-then-is_some-clause-tried g c =
    subst (λ (refusal : Option Refusal). Tries c.args.self.now (Plug c.args.place c.args.bytes.now) refusal c.refuse.new.self
    × SettlesUnless refusal c.args.self.now c.refuse.new.self c.args.sensors.now c.args.sensors.now) (sym c.refuse.ensures.reason) (
      occupied c.args.self.now c.refuse.new.self c.args.place c.args.bytes.now
          (ap (λ (view : WatchView). holds_place view.entries c.args.place) (sym c.self.view_is) ∙ sym c.entry.ensures.held ∙ sym c.is_some.ensures
          ∙ c.if-is_some.true)
          c.refuse.ensures.left,
      refl,
    )

pub returns-then-len-ge-MOST_FRUS-clause-tried : goal.returns-then-len-ge-MOST_FRUS-clause-tried
returns-then-len-ge-MOST_FRUS-clause-tried g c =
    subst (λ (refusal : Option Refusal). Tries c.args.self.now (Plug c.args.place c.args.bytes.now) refusal c.refuse-then-len-ge-MOST_FRUS.new.self
    × SettlesUnless refusal c.args.self.now c.refuse-then-len-ge-MOST_FRUS.new.self c.args.sensors.now c.args.sensors.now)
    (sym c.refuse-then-len-ge-MOST_FRUS.ensures.reason) (
      frus_full c.args.self.now c.refuse-then-len-ge-MOST_FRUS.new.self c.args.place c.args.bytes.now c.in-Ok.fru
          (ap (λ (view : WatchView). holds_place view.entries c.args.place) (sym c.self.view_is) ∙ sym c.entry.ensures.held ∙ sym c.is_some.ensures
          ∙ c.if-is_some.false)
          c.in-Ok.ensures
          (ap (λ (view : WatchView). nat_le most_frus (length view.entries)) (sym c.self.view_is)
          ∙ le-leb most_frus (length c.self.inside.rows.entries) (omega (arith, c.len.ensures, c.if-len-ge-MOST_FRUS.true)))
          c.refuse-then-len-ge-MOST_FRUS.ensures.left,
      refl,
    )

pub returns-else-len-ge-MOST_FRUS-clause-tried : goal.returns-else-len-ge-MOST_FRUS-clause-tried
returns-else-len-ge-MOST_FRUS-clause-tried g c =
    if_ok_more (λ (refusal : Option Refusal). AddsUnless refusal c.args.place c.in-Ok.fru c.args.self.now c.add_fru.new.self
    × SettlesUnless refusal c.args.self.now c.add_fru.new.self c.args.sensors.now c.add_fru.new.sensors)
    (λ (refusal : Option Refusal). Tries c.args.self.now (Plug c.args.place c.args.bytes.now) refusal c.add_fru.new.self
    × SettlesUnless refusal c.args.self.now c.add_fru.new.self c.args.sensors.now c.add_fru.new.sensors) c.add_fru.result
    (λ refusal adds. (
      plugged_unless refusal c.args.self.now c.add_fru.new.self c.args.place c.args.bytes.now c.in-Ok.fru
          (ap (λ (view : WatchView). holds_place view.entries c.args.place) (sym c.self.view_is) ∙ sym c.entry.ensures.held ∙ sym c.is_some.ensures
          ∙ c.if-is_some.false)
          c.in-Ok.ensures
          (ap (λ (view : WatchView). nat_le most_frus (length view.entries)) (sym c.self.view_is)
          ∙ lt-leb most_frus (length c.self.inside.rows.entries) (omega (arith, c.len.ensures, c.if-len-ge-MOST_FRUS.false))) adds.0,
      adds.1,
    ))
    c.add_fru.ensures.ok

pub returns-in_ok-refusal-in-Err-clause-tried : goal.returns-in_ok-refusal-in-Err-clause-tried
returns-in_ok-refusal-in-Err-clause-tried g c =
    subst (λ (refusal : Option Refusal). Tries c.args.self.now (Plug c.args.place c.args.bytes.now) refusal c.refuse-in-Err.new.self
    × SettlesUnless refusal c.args.self.now c.refuse-in-Err.new.self c.args.sensors.now c.args.sensors.now)
    (sym c.refuse-in-Err.ensures.reason) (
      broken c.args.self.now c.refuse-in-Err.new.self c.args.place c.args.bytes.now c.in-Err.rule c.in_ok-refusal-in-Err.refusal
          (ap (λ (view : WatchView). holds_place view.entries c.args.place) (sym c.self.view_is) ∙ sym c.entry.ensures.held ∙ sym c.is_some.ensures
          ∙ c.if-is_some.false)
          c.in-Err.ensures c.in_ok-refusal-in-Err.ensures.refusal c.refuse-in-Err.ensures.left,
      refl,
    )

-- ---- the work

pub returns-then-is_some-clause-counted : goal.returns-then-is_some-clause-counted
returns-then-is_some-clause-counted g c =
    plug_untested false c.args.self.now c.args.place c.args.bytes.now c.args.steps.now
    (untested_held c.args.self.now c.args.place c.args.bytes.now
    (ap (λ (view : WatchView). holds_place view.entries c.args.place) (sym c.self.view_is) ∙ sym c.entry.ensures.held ∙ sym c.is_some.ensures
    ∙ c.if-is_some.true))

pub returns-then-len-ge-MOST_FRUS-clause-counted : goal.returns-then-len-ge-MOST_FRUS-clause-counted
returns-then-len-ge-MOST_FRUS-clause-counted g c =
    plug_untested false c.args.self.now c.args.place c.args.bytes.now c.args.steps.now
    (untested_full c.args.self.now c.args.place c.args.bytes.now
    (ap (λ (view : WatchView). nat_le most_frus (length view.entries)) (sym c.self.view_is)
    ∙ le-leb most_frus (length c.self.inside.rows.entries) (omega (arith, c.len.ensures, c.if-len-ge-MOST_FRUS.true))))

pub returns-else-len-ge-MOST_FRUS-clause-counted : goal.returns-else-len-ge-MOST_FRUS-clause-counted
returns-else-len-ge-MOST_FRUS-clause-counted g c =
    plug_tested (is_err c.add_fru.result) c.args.self.now c.args.place c.args.bytes.now c.args.steps.now c.add_fru.new.steps
    (is_tested_then c.args.self.now c.args.place c.args.bytes.now
    (ap (λ (view : WatchView). holds_place view.entries c.args.place) (sym c.self.view_is) ∙ sym c.entry.ensures.held ∙ sym c.is_some.ensures
    ∙ c.if-is_some.false)
    (ap is_ok c.in-Ok.ensures)
    (ap (λ (view : WatchView). nat_le most_frus (length view.entries)) (sym c.self.view_is)
    ∙ lt-leb most_frus (length c.self.inside.rows.entries) (omega (arith, c.len.ensures, c.if-len-ge-MOST_FRUS.false))))
    c.add_fru.ensures.counted

pub returns-in_err-refusal-in-Err-clause-counted : goal.returns-in_err-refusal-in-Err-clause-counted
returns-in_err-refusal-in-Err-clause-counted g c =
    plug_failed _ c.from_residual.result c.args.self.now c.args.place c.args.bytes.now c.args.steps.now
    c.from_residual.ensures.1

pub returns-in_ok-refusal-in-Err-clause-counted : goal.returns-in_ok-refusal-in-Err-clause-counted
returns-in_ok-refusal-in-Err-clause-counted g c =
    plug_untested false c.args.self.now c.args.place c.args.bytes.now c.args.steps.now
    (untested_broken c.args.self.now c.args.place c.args.bytes.now
    (ap is_ok (breaks_by c.in-Err.rule c.in_ok-refusal-in-Err.refusal (record_of c.args.bytes.now) c.in_ok-refusal-in-Err.ensures.refusal
    c.in-Err.ensures)))
