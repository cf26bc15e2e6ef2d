use Rattle.std.proofs.Common.{arith, sym, refl}
use Rattle.std.proofs.lemmas.Result.{err_from_is_err_and}
use Rattle.fru_area.specs.RawFields.{raw_view}
use Rattle.fru_area.proofs.PositionsLemmas.{checked-with_field}
use Rattle.fru_area.proofs.RawFieldsLemmas.{first-found}
use Rattle.fru_area.proofs.WalksLemmas.{GoesOn-start, GoesOn-field, GoesOn-end, GoesOn-fault}
use Rattle.fru_area.proofs.area.check_fields.Goals as goal

pub loop-raw-init : goal.loop-raw-init
loop-raw-init c = GoesOn-start c.args.area _ c.args.bytes.now c.args.start _ _ c.field_bytes-rest.ensures.exact
    (omega (arith, c.field_bytes-rest.ensures.fewer)) refl

pub returns-in_err-raw : goal.returns-in_err-raw
returns-in_err-raw c =
    let given = err_from_is_err_and c.from_residual.result c.from_residual.ensures.1 in
    rw (given.1, given.2) (GoesOn-fault c.args.area _ _ _ _ (sym c.in_err-raw.ensures.exact) c.loop-raw.invariant)

pub loop-raw-preserved : goal.loop-raw-preserved
loop-raw-preserved c =
    let smaller = rw c.in-Some.is at c.in_ok-raw.ensures.smaller in
    GoesOn-field c.args.area _ _ (raw_view c.in-Some.raw) _ _ _ (first-found _ _ _ c.in_ok-raw.ensures.exact c.in-Some.is) smaller
    (checked-with_field (raw_view c.in-Some.raw)) c.loop-raw.invariant

pub returns : goal.returns
returns c = GoesOn-end c.args.area _ _ _ (first-found _ _ _ c.in_ok-raw.ensures.exact c.in_default.is) c.loop-raw.invariant
