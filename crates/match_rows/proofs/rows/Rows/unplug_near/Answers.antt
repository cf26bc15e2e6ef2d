use Rattle.std.proofs.Common.{◌≡◌, ◌∙◌, ◌<◌, ℕ, List, true, length, sym, ap, ap₂, subst, rules}
use Rattle.std.specs.Global.{Box}
use Rattle.std.specs.List.{remove}
use Rattle.bmc_base.specs.Places.{Place}
use Rattle.probe_lang.specs.declared.rows.Entry.{Entry}
use Rattle.probe_lang.specs.Presents.{unboxed, are_by_place, holds_place}
use Rattle.match_rows.specs.Rows.{RowsView, count_before}
use Rattle.match_rows.proofs.RowsLemmas.{count_below, find_held, without_entry_at, without_entry_by_place}
use Rattle.match_rows.proofs.BoxesLemmas.{length_unboxed, unboxed_remove, unboxed_at}
use Rattle.match_rows.proofs.rows.Rows.unplug_near.Goals as goal

position_within : (place : Place) (boxes : List (Box Entry)) (old : List Entry) (position : ℕ) → unboxed boxes ≡ old → holds_place old place ≡ true
    → position ≡ count_before place old → position < length boxes
position_within place boxes old position same held value =
    subst (λ (count : ℕ). position < count) (length_unboxed boxes)
    (subst (λ (entries : List Entry). position < length entries) (sym same) (subst (λ (n : ℕ). n < length old) (sym value) (count_below place old held)))

pub remove-requires : goal.remove-requires
remove-requires c =
    let same = ap (λ (rows : RowsView). rows.entries) c.self.view_is in
    let is = c.count_before-position.ensures.value ∙ ap (count_before c.args.place) c.entries.ensures.value in
    let within = position_within c.args.place c.self.inside.entries.items c.args.self.now.entries c.count_before-position.result same c.requires.held is in
    search rules

pub returns-clause-entries : goal.returns-clause-entries
returns-clause-entries c =
    let old = c.args.self.now.entries in
    let same : unboxed c.self.inside.entries.items ≡ old = ap (λ (rows : RowsView). rows.entries) c.self.view_is in
    ap (λ (boxes : List (Box Entry)). unboxed boxes) c.remove.ensures.items
    ∙ unboxed_remove c.self.inside.entries.items c.count_before-position.result
    ∙ ap₂ (λ entries n. remove entries n) same (c.count_before-position.ensures.value ∙ ap (count_before c.args.place) c.entries.ensures.value)
    ∙ without_entry_at c.args.place old c.entries.ensures.order c.requires.held

pub invariant_of-self : goal.invariant_of-self
invariant_of-self c =
    ap are_by_place (returns-clause-entries c)
    ∙ without_entry_by_place c.args.place c.args.self.now.entries c.entries.ensures.order

pub returns-clause-entry : goal.returns-clause-entry
returns-clause-entry c =
    let boxes = c.self.inside.entries.items in
    let old = c.args.self.now.entries in
    let position = c.count_before-position.result in
    let same : unboxed boxes ≡ old = ap (λ (rows : RowsView). rows.entries) c.self.view_is in
    let is = c.count_before-position.ensures.value ∙ ap (count_before c.args.place) c.entries.ensures.value in
    let within = position_within c.args.place boxes old position same c.requires.held is in
    find_held c.args.place old c.entries.ensures.order c.requires.held
    ∙ unboxed_at boxes old position _ c.remove.result same is within c.remove.ensures.value
