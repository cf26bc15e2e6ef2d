use Rattle.std.proofs.Common.{sym}
use Rattle.std.proofs.lemmas.Result.{err_from_is_err_and}
use Rattle.fru_record.proofs.RecordsLemmas.{Appends-absent, fields_at-fault, fields_at-present}
use Rattle.fru_record.proofs.decode.append_at.Goals as goal

pub returns-then-offset-eq0 : goal.returns-then-offset-eq0
returns-then-offset-eq0 c = Appends-absent c.args.area c.args.bytes.now c.args.offset c.args.list.now c.if-offset-eq0.true

pub returns-in_err-found : goal.returns-in_err-found
returns-in_err-found c =
    let p = err_from_is_err_and c.from_residual.result c.from_residual.ensures.1 in
    rw (p.1, p.2) (fields_at-fault c.args.area c.args.bytes.now c.args.offset _ c.if-offset-eq0.false (rw c.from.ensures at (sym c.in_err-found.ensures.exact)))

pub returns : goal.returns
returns c =
    rw (fields_at-present c.args.area c.args.bytes.now c.in_ok-found.found.now c.args.offset c.if-offset-eq0.false
    (rw c.from.ensures at (sym c.in_ok-found.ensures.exact)))
    c.append_fields.ensures
