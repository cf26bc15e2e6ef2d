use Rattle.std.proofs.Common.{◌∙◌, find, sym, ap}
use Rattle.probe_lang.specs.Presents.{is_entry_at, holds_place, are_by_place}
use Rattle.match_rows.specs.Rows.{RowsView}
use Rattle.fru_rows.proofs.JoinedLemmas.{joined_by_place, same_found, found_in_other, held_in_first, held_in_other}
use Rattle.fru_rows.proofs.rows.FruRows.entry.Goals as goal

pub returns-then-is_some-clause-value : goal.returns-then-is_some-clause-value
returns-then-is_some-clause-value c =
    c.entry_near-busy.ensures.value
    ∙ same_found c.args.place c.self.inside.busy.entries c.self.inside.idle.entries c.self.invariant.apart
    (sym c.entry_near-busy.ensures.held ∙ sym c.is_some.ensures ∙ c.if-is_some.true)
    ∙ ap (λ (rows : RowsView). find (is_entry_at c.args.place) rows.entries) c.self.view_is

pub returns-then-is_some-clause-held : goal.returns-then-is_some-clause-held
returns-then-is_some-clause-held c =
    let held = sym c.entry_near-busy.ensures.held ∙ sym c.is_some.ensures ∙ c.if-is_some.true in
    c.entry_near-busy.ensures.held ∙ held
    ∙ sym (held_in_first c.args.place c.self.inside.busy.entries c.self.inside.idle.entries held)
    ∙ ap (λ (rows : RowsView). holds_place rows.entries c.args.place) c.self.view_is

pub returns-then-is_some-clause-order : goal.returns-then-is_some-clause-order
returns-then-is_some-clause-order c =
    ap (λ (rows : RowsView). are_by_place rows.entries) (sym c.self.view_is)
    ∙ joined_by_place c.self.inside.busy.entries c.self.inside.idle.entries c.self.invariant.apart

pub returns-clause-value : goal.returns-clause-value
returns-clause-value c =
    c.entry_near.ensures.value
    ∙ sym (found_in_other c.args.place c.self.inside.busy.entries c.self.inside.idle.entries
    (sym c.entry_near-busy.ensures.held ∙ sym c.is_some.ensures ∙ c.if-is_some.false))
    ∙ ap (λ (rows : RowsView). find (is_entry_at c.args.place) rows.entries) c.self.view_is

pub returns-clause-held : goal.returns-clause-held
returns-clause-held c =
    c.entry_near.ensures.held
    ∙ sym (held_in_other c.args.place c.self.inside.busy.entries c.self.inside.idle.entries
    (sym c.entry_near-busy.ensures.held ∙ sym c.is_some.ensures ∙ c.if-is_some.false))
    ∙ ap (λ (rows : RowsView). holds_place rows.entries c.args.place) c.self.view_is

pub returns-clause-order : goal.returns-clause-order
returns-clause-order c =
    ap (λ (rows : RowsView). are_by_place rows.entries) (sym c.self.view_is)
    ∙ joined_by_place c.self.inside.busy.entries c.self.inside.idle.entries c.self.invariant.apart
