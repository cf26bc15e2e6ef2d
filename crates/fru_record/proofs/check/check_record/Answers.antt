use Rattle.std.proofs.Common.{sym}
use Rattle.std.proofs.lemmas.Result.{err_from_is_err_and}
use Rattle.fru_record.proofs.RecordsLemmas.{checked-no_header, checked-no_chassis, checked-no_board, checked-last}
use Rattle.fru_record.proofs.check.check_record.Goals as goal

pub returns-in_err-header : goal.returns-in_err-header
returns-in_err-header c =
    let p = err_from_is_err_and c.from_residual.result c.from_residual.ensures.1 in
    rw (p.1, p.2) (checked-no_header c.args.bytes.now _ (sym c.in_err-header.ensures))

pub returns-in_err-check_area : goal.returns-in_err-check_area
returns-in_err-check_area c =
    let p = err_from_is_err_and c.from_residual-in_err-check_area.result c.from_residual-in_err-check_area.ensures.1 in
    rw (p.1, p.2) (checked-no_chassis c.args.bytes.now _ _ (sym c.in_ok-header.ensures) c.in_err-check_area.ensures)

pub returns-in_err-check_area-2 : goal.returns-in_err-check_area-2
returns-in_err-check_area-2 c =
    let p = err_from_is_err_and c.from_residual-in_err-check_area-2.result c.from_residual-in_err-check_area-2.ensures.1 in
    rw (p.1, p.2) (checked-no_board c.args.bytes.now _ _ _ (sym c.in_ok-header.ensures) c.in_ok-check_area.ensures c.in_err-check_area-2.ensures)

pub returns : goal.returns
returns c = checked-last c.args.bytes.now _ _ _ _ (sym c.in_ok-header.ensures) c.in_ok-check_area.ensures c.in_ok-check_area-2.ensures c.check_area-3.ensures
