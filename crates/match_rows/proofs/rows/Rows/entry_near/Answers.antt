use Rattle.std.proofs.Common.{◌≡◌, ◌∙◌, true, false, None, Some, sym, ap, option_map}
use Rattle.std.specs.List.{find}
use Rattle.std.specs.Option.{is_some}
use Rattle.bmc_base.specs.Places.{place_eq}
use Rattle.probe_lang.specs.declared.rows.Entry.{Entry}
use Rattle.probe_lang.specs.Presents.{is_entry_at}
use Rattle.match_rows.specs.Rows.{count_before}
use Rattle.match_rows.proofs.RowsLemmas.{found_past, found_or_not, found_is_held}
use Rattle.match_rows.proofs.BoxesLemmas.{unboxed_at, unboxed_past}
use Rattle.match_rows.proofs.rows.Rows.entry_near.Goals as goal

not_found : (c : goal.After-from_residual) → find (is_entry_at c.args.place) c.args.self.now.entries ≡ None
not_found c =
    let old = c.args.self.now.entries in
    let same = c.entries-entries.ensures.value in
    let past =
    unboxed_past c.entries-entries.result.now old c.count_before.result _ same (c.count_before.ensures.value ∙ ap (count_before c.args.place) same)
    c.in_err-stored.ensures.lookup.3 in
    found_past c.args.place old c.entries-entries.ensures.order past

pub returns-in_err-stored-clause-value : goal.returns-in_err-stored-clause-value
returns-in_err-stored-clause-value c = ap (option_map (λ entry. entry.now)) c.from_residual.ensures ∙ sym (not_found c)

pub returns-in_err-stored-clause-held : goal.returns-in_err-stored-clause-held
returns-in_err-stored-clause-held c =
    ap is_some c.from_residual.ensures ∙ ap is_some (sym (not_found c)) ∙ found_is_held c.args.place c.args.self.now.entries

pub returns-then-eq-clause-value : goal.returns-then-eq-clause-value
returns-then-eq-clause-value c =
    let old = c.args.self.now.entries in
    let entry = c.in_ok-stored.stored.now in
    let same = c.entries-entries.ensures.value in
    let lookup = c.in_ok-stored.ensures.lookup in
    let at =
    unboxed_at c.entries-entries.result.now old c.count_before.result _ entry same (c.count_before.ensures.value ∙ ap (count_before c.args.place) same)
    lookup.3.0 lookup.1 in
    ap Some c.deref-entry.ensures
    ∙ sym (found_or_not c.args.place old entry.value true c.entries-entries.ensures.order at
    (ap (λ (entry : Entry). place_eq entry.place c.args.place) (sym c.deref-entry.ensures) ∙ sym c.eq.ensures ∙ c.if-eq.true))

pub returns-else-eq-clause-value : goal.returns-else-eq-clause-value
returns-else-eq-clause-value c =
    let old = c.args.self.now.entries in
    let entry = c.in_ok-stored.stored.now in
    let same = c.entries-entries.ensures.value in
    let lookup = c.in_ok-stored.ensures.lookup in
    let at =
    unboxed_at c.entries-entries.result.now old c.count_before.result _ entry same (c.count_before.ensures.value ∙ ap (count_before c.args.place) same)
    lookup.3.0 lookup.1 in
    sym (found_or_not c.args.place old entry.value false c.entries-entries.ensures.order at
    (ap (λ (entry : Entry). place_eq entry.place c.args.place) (sym c.deref-entry.ensures) ∙ sym c.eq.ensures ∙ c.if-eq.false))

pub returns-else-eq-clause-held : goal.returns-else-eq-clause-held
returns-else-eq-clause-held c = ap is_some (returns-else-eq-clause-value c) ∙ found_is_held c.args.place c.args.self.now.entries

pub returns-then-eq-clause-held : goal.returns-then-eq-clause-held
returns-then-eq-clause-held c = ap is_some (returns-then-eq-clause-value c) ∙ found_is_held c.args.place c.args.self.now.entries
