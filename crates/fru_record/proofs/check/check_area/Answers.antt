use Rattle.std.proofs.Common.{sym}
use Rattle.std.proofs.lemmas.Result.{err_from_is_err_and}
use Rattle.fru_record.proofs.RecordsLemmas.{checked-absent, checked-outside, checked-inside}
use Rattle.fru_record.proofs.check.check_area.Goals as goal

pub returns-then-offset-eq0 : goal.returns-then-offset-eq0
returns-then-offset-eq0 c = checked-absent c.args.area c.args.bytes.now c.args.offset c.if-offset-eq0.true

pub returns-in_err-found : goal.returns-in_err-found
returns-in_err-found c =
    let p = err_from_is_err_and c.from_residual.result c.from_residual.ensures.1 in
    rw (p.1, p.2) (checked-outside c.args.area c.args.bytes.now c.args.offset _ c.if-offset-eq0.false (rw c.from.ensures at (sym c.in_err-found.ensures.exact)))

pub returns : goal.returns
returns c = checked-inside c.args.area c.args.bytes.now c.in_ok-found.found.now c.args.offset _ _ c.if-offset-eq0.false
    (rw c.from.ensures at (sym c.in_ok-found.ensures.exact)) c.fields_start.ensures.exact c.check_fields.ensures
