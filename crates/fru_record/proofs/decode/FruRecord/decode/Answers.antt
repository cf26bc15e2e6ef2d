use Rattle.std.proofs.Common.{sym, arith}
use Rattle.std.proofs.lemmas.Result.{err_from_is_err_and}
use Rattle.fru_record.proofs.LookupsLemmas.{AreNamed-record}
use Rattle.fru_record.proofs.RecordsLemmas.{record_of-header, record_of-no_header, record_of-appended, fields_under-no_chassis, fields_under-no_board}
use Rattle.fru_record.proofs.RecordsLemmas.{fields_under-no_product, appended}
use Rattle.fru_record.proofs.decode.FruRecord.decode.Goals as goal

pub returns-in_err-header : goal.returns-in_err-header
returns-in_err-header c =
    let p = err_from_is_err_and c.from_residual.result c.from_residual.ensures.1 in
    rw (p.1, p.2) (record_of-no_header c.args.bytes.now _ (sym c.in_err-header.ensures))

pub returns-in_err-append_at : goal.returns-in_err-append_at
returns-in_err-append_at c =
    let p = err_from_is_err_and c.from_residual-in_err-append_at.result c.from_residual-in_err-append_at.ensures.1 in
    rw (p.1, p.2, record_of-header c.args.bytes.now _ (sym c.in_ok-header.ensures)) (fields_under-no_chassis c.args.bytes.now _ _ c.in_err-append_at.ensures)

pub returns-in_err-append_at-2 : goal.returns-in_err-append_at-2
returns-in_err-append_at-2 c =
    let p = err_from_is_err_and c.from_residual-in_err-append_at-2.result c.from_residual-in_err-append_at-2.ensures.1 in
    let chassis = appended _ _ _ c.in_ok-append_at.ensures in
    rw (p.1, p.2, record_of-header c.args.bytes.now _ (sym c.in_ok-header.ensures))
    (fields_under-no_board c.args.bytes.now _ _ _ chassis.1 c.in_err-append_at-2.ensures)

pub returns-in_err-append_at-3 : goal.returns-in_err-append_at-3
returns-in_err-append_at-3 c =
    let p = err_from_is_err_and c.from_residual-in_err-append_at-3.result c.from_residual-in_err-append_at-3.ensures.1 in
    let chassis = appended _ _ _ c.in_ok-append_at.ensures in
    let board = appended _ _ _ c.in_ok-append_at-2.ensures in
    rw (p.1, p.2, record_of-header c.args.bytes.now _ (sym c.in_ok-header.ensures))
    (fields_under-no_product c.args.bytes.now _ _ _ _ chassis.1 board.1 c.in_err-append_at-3.ensures)

pub invariant_of-result : goal.invariant_of-result
invariant_of-result c =
    AreNamed-record c.args.bytes.now _ (λ k. omega (arith, c.type_inv.bytes k))
    (record_of-appended c.args.bytes.now _ _ _ _ _ _ _ _
    (sym c.in_ok-header.ensures) c.in_ok-fields.ensures c.in_ok-append_at.ensures c.in_ok-append_at-2.ensures
    c.in_ok-append_at-3.ensures)

pub returns : goal.returns
returns c =
    record_of-appended c.args.bytes.now _ _ _ _ _ _ _ _
    (sym c.in_ok-header.ensures) c.in_ok-fields.ensures c.in_ok-append_at.ensures c.in_ok-append_at-2.ensures
    c.in_ok-append_at-3.ensures
