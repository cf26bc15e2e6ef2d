use Rattle.std.proofs.Common.{◌≡◌, ◌∙◌, sym, ap}
use Rattle.bmc_base.specs.Places.{Place, place_eq}
use Rattle.probe_lang.specs.declared.rows.Entry.{Entry}
use Rattle.probe_lang.specs.Presents.{unboxed, are_by_place}
use Rattle.match_rows.proofs.RowsLemmas.{without_entry_by_place}
use Rattle.inventory.proofs.OrderLemmas.{without_parts, without_nothing, without_other}
use Rattle.inventory.proofs.moment.Moment.without.Goals.{else-at-entries-via-then-at-entries+else-eq, else-at-entries-via-else-at-entries}
use Rattle.inventory.proofs.moment.Moment.without.Goals as goal

at_place : (place : Place) (held entry : Entry) → entry ≡ held → place_eq held.place place ≡ place_eq entry.place place
at_place place held entry holds = ap (λ (each : Entry). place_eq each.place place) (sym holds)

pub returns-then-eq-clause-entries : goal.returns-then-eq-clause-entries
returns-then-eq-clause-entries c =
    without_parts c.args.place c.args.entries.now c.count_before-at.result c.index-entries-at.result c.requires c.count_before-at.ensures.value
    c.if-at-entries.true c.index-entries-at.is (at_place c.args.place _ _ c.deref.ensures ∙ sym c.eq.ensures ∙ c.if-eq.true)

pub invariant_of-result : goal.invariant_of-result
invariant_of-result c = ap are_by_place (returns-then-eq-clause-entries c) ∙ without_entry_by_place c.args.place (unboxed c.args.entries.now) c.requires

pub returns-clause-entries : goal.returns-clause-entries
returns-clause-entries c =
    c.of.ensures.entries ∙ elim c.else-at-entries.branch [
      | else-at-entries-via-then-at-entries+else-eq w ↦ without_other c.args.place c.args.entries.now c.count_before-at.result w.index-entries-at.result
          c.requires c.count_before-at.ensures.value w.if-at-entries.true w.index-entries-at.is (at_place c.args.place _ _ w.deref.ensures
          ∙ sym w.eq.ensures ∙ w.if-eq.false)
      | else-at-entries-via-else-at-entries w ↦ without_nothing c.args.place c.args.entries.now c.count_before-at.result c.requires
          c.count_before-at.ensures.value w.if-at-entries.false
    ]
