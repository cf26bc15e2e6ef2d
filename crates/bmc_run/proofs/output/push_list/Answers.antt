use Rattle.std.proofs.Common.{◌∙◌, ◌++◌, List, ap, string_bytes}
use Rattle.std.proofs.lemmas.Result.{err_from_is_err_and}
use Rattle.fru_area.specs.declared.field.Field.{Field}
use Rattle.bmc_report.specs.Rows.{fru_row}
use Rattle.bmc_core.specs.Lists.{entry_row}
use Rattle.bmc_run.proofs.GatheringLemmas.{rows_more, rows_front, rows_stopped}
use Rattle.bmc_run.proofs.output.push_list.Goals as goal

pub returns-in_err-push_fru_row-clause-front : goal.returns-in_err-push_fru_row-clause-front
returns-in_err-push_fru_row-clause-front g c =
    let p = err_from_is_err_and c.from_residual.result c.from_residual.ensures.1 in
    rw p.1 (rows_front entry_row _ _ _ _ c.args.entries c.loop-entry.entries c.loop-entry.invariant.rows)

pub loop-entry-preserved : goal.loop-entry-preserved
loop-entry-preserved g c =
    let row = c.in_ok-push_fru_row.ensures
    ∙ ap (λ (fields : List Field). string_bytes c.loop-entry.text ++ fru_row c.in-Some.entry.now.place fields) c.fields.ensures in
    record {
      rows = rows_more entry_row _ _ _ _ _ _ _ c.args.entries c.loop-entry.entries c.next.new.self c.in-Some.entry.now c.loop-entry.invariant.rows
          c.in-Some.ensures row c.in_ok-flush_large.ensures.all;
      sink = c.in_ok-flush_large.ensures.cause.none ∙ c.loop-entry.invariant.sink;
    }

pub returns-in_err-flush_large-clause-front : goal.returns-in_err-flush_large-clause-front
returns-in_err-flush_large-clause-front g c =
    let row = c.in_ok-push_fru_row.ensures
    ∙ ap (λ (fields : List Field). string_bytes c.loop-entry.text ++ fru_row c.in-Some.entry.now.place fields) c.fields.ensures in
    let p = err_from_is_err_and c.from_residual-in_err-flush_large.result c.from_residual-in_err-flush_large.ensures.1 in
    rw p.1
    (rows_stopped entry_row _ _ _ _ _ _ c.args.entries c.loop-entry.entries c.next.new.self c.in-Some.entry.now c.loop-entry.invariant.rows
    c.in-Some.ensures row c.in_err-flush_large.ensures.front)
