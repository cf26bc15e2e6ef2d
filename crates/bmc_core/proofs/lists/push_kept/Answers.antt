use Rattle.std.proofs.Common.{◌∙◌, ◌++◌, ℕ, List, Option, sym, ap, string_bytes}
use Rattle.bmc_base.specs.Places.{Place}
use Rattle.inventory.specs.Indexes.{kept_of, index_in}
use Rattle.bmc_report.specs.BoardRows.{index_row}
use Rattle.bmc_core.proofs.RowsLemmas.{rows_next, rows_past}
use Rattle.bmc_core.proofs.lists.push_kept.Goals as goal

pub returns-in_default : goal.returns-in_default
returns-in_default c =
    let kept : List (Option Place) = kept_of c.args.keep.now.kept c.args.number in
    rows_past (λ place. index_row c.args.name.now (index_in kept place) place) _ _ kept c.loop-position.position c.loop-position.invariant
    (sym c.at.ensures ∙ c.in_default.is)

pub loop-position-preserved : goal.loop-position-preserved
loop-position-preserved c =
    let kept : List (Option Place) = kept_of c.args.keep.now.kept c.args.number in
    rows_next (λ place. index_row c.args.name.now (index_in kept place) place) _ _ kept c.loop-position.position c.in-Some.place _ c.loop-position.invariant
    (sym c.at.ensures ∙ c.in-Some.is)
    (c.in_ok-push_index_row.ensures
    ∙ ap (λ (index : ℕ). string_bytes c.loop-position.text ++ index_row c.args.name.now index c.in-Some.place) c.index-index.ensures)
