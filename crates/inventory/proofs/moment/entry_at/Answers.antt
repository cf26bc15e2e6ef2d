use Rattle.std.proofs.Common.{◌∙◌, true, false, Some, refl, sym, ap, option_map}
use Rattle.bmc_base.specs.Places.{place_eq}
use Rattle.probe_lang.specs.declared.rows.Entry.{Entry}
use Rattle.probe_lang.specs.Presents.{unboxed}
use Rattle.match_rows.proofs.RowsLemmas.{found_past, found_or_not}
use Rattle.match_rows.proofs.BoxesLemmas.{unboxed_at, unboxed_past}
use Rattle.inventory.proofs.moment.entry_at.Goals as goal

pub returns-in_err-stored : goal.returns-in_err-stored
returns-in_err-stored c =
    let boxes = c.args.entries.now in
    ap (option_map (λ entry. entry.now)) c.from_residual.ensures
    ∙ sym (found_past c.args.place (unboxed boxes) c.requires
    (unboxed_past boxes _ c.count_before.result _ refl c.count_before.ensures.value c.in_err-stored.ensures.lookup.3))

pub returns-then-eq : goal.returns-then-eq
returns-then-eq c =
    let boxes = c.args.entries.now in
    let entry = c.in_ok-stored.stored.now in
    let lookup = c.in_ok-stored.ensures.lookup in
    let at = unboxed_at boxes _ c.count_before.result _ entry refl c.count_before.ensures.value lookup.3.0 lookup.1 in
    ap Some c.deref-entry.ensures
    ∙ sym (found_or_not c.args.place (unboxed boxes) entry.value true c.requires at
    (ap (λ (entry : Entry). place_eq entry.place c.args.place) (sym c.deref-entry.ensures) ∙ sym c.eq.ensures ∙ c.if-eq.true))

pub returns-else-eq : goal.returns-else-eq
returns-else-eq c =
    let boxes = c.args.entries.now in
    let entry = c.in_ok-stored.stored.now in
    let lookup = c.in_ok-stored.ensures.lookup in
    let at = unboxed_at boxes _ c.count_before.result _ entry refl c.count_before.ensures.value lookup.3.0 lookup.1 in
    sym (found_or_not c.args.place (unboxed boxes) entry.value false c.requires at
    (ap (λ (entry : Entry). place_eq entry.place c.args.place) (sym c.deref-entry.ensures) ∙ sym c.eq.ensures ∙ c.if-eq.false))
