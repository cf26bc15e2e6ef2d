use Rattle.std.proofs.Common.{◌∙◌, List, sym, ap, subst}
use Rattle.probe_lang.specs.declared.rows.Entry.{Entry}
use Rattle.probe_lang.specs.Presents.{holds_place, with_entry}
use Rattle.match_rows.specs.Rows.{RowsView}
use Rattle.fru_rows.specs.Idle.{is_idle}
use Rattle.fru_rows.specs.Parts.{joined, AreSorted}
use Rattle.fru_rows.proofs.JoinedLemmas.{free_of_both, joined_with, joined_with_other}
use Rattle.fru_rows.proofs.SortedLemmas.{busy_comes, idle_comes}
use Rattle.fru_rows.proofs.rows.FruRows.plug.Goals as goal

pub plug_near-requires-clause-free : goal.plug_near-requires-clause-free
plug_near-requires-clause-free c =
    (free_of_both c.self.inside.busy.entries c.self.inside.idle.entries c.args.entry.value.place
    (ap (λ (rows : RowsView). holds_place rows.entries c.args.entry.value.place) c.self.view_is ∙ c.requires.free)).1

pub plug_near-requires-else-is_idle-clause-free : goal.plug_near-requires-else-is_idle-clause-free
plug_near-requires-else-is_idle-clause-free c =
    (free_of_both c.self.inside.busy.entries c.self.inside.idle.entries c.args.entry.value.place
    (ap (λ (rows : RowsView). holds_place rows.entries c.args.entry.value.place) c.self.view_is ∙ c.requires.free)).0

pub invariant_of-self : goal.invariant_of-self
invariant_of-self c =
    let free = free_of_both c.self.inside.busy.entries c.self.inside.idle.entries c.args.entry.value.place
    (ap (λ (rows : RowsView). holds_place rows.entries c.args.entry.value.place) c.self.view_is ∙ c.requires.free) in
    subst (λ (others : List Entry). AreSorted c.self.inside.busy.entries others) (sym c.plug_near.ensures)
    (idle_comes c.args.entry.value c.self.inside.busy.entries c.self.inside.idle.entries c.self.invariant
    (ap is_idle (sym c.deref.ensures) ∙ sym c.is_idle.ensures ∙ c.if-is_idle.true) free.0 free.1)

pub invariant_of-self-else-is_idle : goal.invariant_of-self-else-is_idle
invariant_of-self-else-is_idle c =
    let free = free_of_both c.self.inside.busy.entries c.self.inside.idle.entries c.args.entry.value.place
    (ap (λ (rows : RowsView). holds_place rows.entries c.args.entry.value.place) c.self.view_is ∙ c.requires.free) in
    subst (λ (entries : List Entry). AreSorted entries c.self.inside.idle.entries) (sym c.plug_near-else-is_idle.ensures)
    (busy_comes c.args.entry.value c.self.inside.busy.entries c.self.inside.idle.entries c.self.invariant
    (ap is_idle (sym c.deref.ensures) ∙ sym c.is_idle.ensures ∙ c.if-is_idle.false) free.0 free.1)

pub returns-then-is_idle : goal.returns-then-is_idle
returns-then-is_idle c =
    let free = free_of_both c.self.inside.busy.entries c.self.inside.idle.entries c.args.entry.value.place
    (ap (λ (rows : RowsView). holds_place rows.entries c.args.entry.value.place) c.self.view_is ∙ c.requires.free) in
    ap (joined c.self.inside.busy.entries) c.plug_near.ensures
    ∙ joined_with_other c.args.entry.value c.self.inside.busy.entries c.self.inside.idle.entries free.0
    ∙ ap (λ (rows : RowsView). with_entry c.args.entry.value rows.entries) c.self.view_is

pub returns-else-is_idle : goal.returns-else-is_idle
returns-else-is_idle c =
    let free = free_of_both c.self.inside.busy.entries c.self.inside.idle.entries c.args.entry.value.place
    (ap (λ (rows : RowsView). holds_place rows.entries c.args.entry.value.place) c.self.view_is ∙ c.requires.free) in
    ap (λ (entries : List Entry). joined entries c.self.inside.idle.entries) c.plug_near-else-is_idle.ensures
    ∙ joined_with c.args.entry.value c.self.inside.busy.entries c.self.inside.idle.entries free.0
    ∙ ap (λ (rows : RowsView). with_entry c.args.entry.value rows.entries) c.self.view_is
