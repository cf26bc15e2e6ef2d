use Rattle.std.proofs.Common.{◌∙◌, List, find, sym, ap, subst}
use Rattle.probe_lang.specs.declared.rows.Entry.{Entry}
use Rattle.probe_lang.specs.Presents.{is_entry_at, holds_place, without_entry}
use Rattle.match_rows.specs.Rows.{RowsView}
use Rattle.fru_rows.specs.Parts.{joined, AreSorted}
use Rattle.fru_rows.proofs.JoinedLemmas.{same_found, found_in_other, held_in_other}
use Rattle.fru_rows.proofs.SortedLemmas.{busy_goes, idle_goes, goes_from_first, goes_from_other}
use Rattle.fru_rows.proofs.rows.FruRows.unplug.Goals as goal

pub invariant_of-self : goal.invariant_of-self
invariant_of-self c =
    subst (λ (entries : List Entry). AreSorted entries c.self.inside.idle.entries) (sym c.unplug_near.ensures.entries)
    (busy_goes c.args.place c.self.inside.busy.entries c.self.inside.idle.entries c.self.invariant)

pub invariant_of-self-else-is_some : goal.invariant_of-self-else-is_some
invariant_of-self-else-is_some c =
    subst (λ (others : List Entry). AreSorted c.self.inside.busy.entries others) (sym c.unplug_near-else-is_some.ensures.entries)
    (idle_goes c.args.place c.self.inside.busy.entries c.self.inside.idle.entries c.self.invariant)

pub unplug_near-requires-else-is_some : goal.unplug_near-requires-else-is_some
unplug_near-requires-else-is_some c = record {
  held =
      sym (held_in_other c.args.place c.self.inside.busy.entries c.self.inside.idle.entries
      (sym c.entry_near.ensures.held ∙ sym c.is_some.ensures ∙ c.if-is_some.false))
      ∙ ap (λ (rows : RowsView). holds_place rows.entries c.args.place) c.self.view_is ∙ c.requires.held;
}

pub returns-then-is_some-clause-entries : goal.returns-then-is_some-clause-entries
returns-then-is_some-clause-entries c =
    ap (λ (entries : List Entry). joined entries c.self.inside.idle.entries) c.unplug_near.ensures.entries
    ∙ goes_from_first c.args.place c.self.inside.busy.entries c.self.inside.idle.entries c.self.invariant.apart
    (sym c.entry_near.ensures.held ∙ sym c.is_some.ensures ∙ c.if-is_some.true)
    ∙ ap (λ (rows : RowsView). without_entry c.args.place rows.entries) c.self.view_is

pub returns-then-is_some-clause-entry : goal.returns-then-is_some-clause-entry
returns-then-is_some-clause-entry c =
    ap (λ (rows : RowsView). find (is_entry_at c.args.place) rows.entries) (sym c.self.view_is)
    ∙ sym (same_found c.args.place c.self.inside.busy.entries c.self.inside.idle.entries c.self.invariant.apart
    (sym c.entry_near.ensures.held ∙ sym c.is_some.ensures ∙ c.if-is_some.true))
    ∙ c.unplug_near.ensures.entry

pub returns-else-is_some-clause-entries : goal.returns-else-is_some-clause-entries
returns-else-is_some-clause-entries c =
    ap (joined c.self.inside.busy.entries) c.unplug_near-else-is_some.ensures.entries
    ∙ goes_from_other c.args.place c.self.inside.busy.entries c.self.inside.idle.entries c.self.invariant.apart
    (sym c.entry_near.ensures.held ∙ sym c.is_some.ensures ∙ c.if-is_some.false)
    ∙ ap (λ (rows : RowsView). without_entry c.args.place rows.entries) c.self.view_is

pub returns-else-is_some-clause-entry : goal.returns-else-is_some-clause-entry
returns-else-is_some-clause-entry c =
    ap (λ (rows : RowsView). find (is_entry_at c.args.place) rows.entries) (sym c.self.view_is)
    ∙ found_in_other c.args.place c.self.inside.busy.entries c.self.inside.idle.entries
    (sym c.entry_near.ensures.held ∙ sym c.is_some.ensures ∙ c.if-is_some.false)
    ∙ c.unplug_near-else-is_some.ensures.entry
