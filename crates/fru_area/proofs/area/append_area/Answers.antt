use Rattle.std.proofs.Common.{Ok, arith, ap, sym, ◌∙◌, append-nil, refl}
use Rattle.std.proofs.Math.Seq.{take-length}
use Rattle.std.proofs.lemmas.Result.{err_from_is_err_and}
use Rattle.fru_area.specs.RawFields.{raw_view}
use Rattle.fru_area.proofs.ReadingsLemmas.{GivesFault-seen}
use Rattle.fru_area.proofs.AreasLemmas.{so_far-start, so_far-field, front-more}
use Rattle.fru_area.proofs.RawFieldsLemmas.{first-found}
use Rattle.fru_area.proofs.WalksLemmas.{GoesOn-start, GoesOn-field, GoesOn-end, GoesOn-fault}
use Rattle.fru_area.proofs.area.append_area.Goals as goal

pub loop-raw-init : goal.loop-raw-init
loop-raw-init g c = record {
  fields = GoesOn-start c.args.area _ c.args.bytes.now c.args.start _ _ c.field_bytes-rest.ensures.exact
      (omega (arith, c.field_bytes-rest.ensures.fewer))
      (so_far-start c.args.area c.args.english c.args.names c.args.list.now c.args.bytes.now c.args.start);
  number = omega (arith, c.field_bytes-rest.ensures.fewer);
  front = take-length c.args.list.now;
}

pub returns-in_err-raw-clause-fields : goal.returns-in_err-raw-clause-fields
returns-in_err-raw-clause-fields g c =
    let given = err_from_is_err_and c.from_residual.result c.from_residual.ensures.1 in
    rw (given.1, given.2)
    (GivesFault-seen _ _ _ (sym (GoesOn-fault c.args.area _ _ _ _ (sym c.in_err-raw.ensures.exact) c.loop-raw.invariant.fields)))

pub loop-raw-preserved : goal.loop-raw-preserved
loop-raw-preserved g c =
    let smaller = rw c.in-Some.is at c.in_ok-raw.ensures.smaller in
    let read = first-found _ _ _ c.in_ok-raw.ensures.exact c.in-Some.is in
    record {
      fields = GoesOn-field c.args.area _ _ (raw_view c.in-Some.raw) _ _ _ read smaller
          (so_far-field c.args.area c.args.english _ _ c.next_name-next.result c.loop-raw.list _ (raw_view c.in-Some.raw) _
          c.next_name-next.ensures.named refl c.in_ok-push_written.ensures.ok)
          c.loop-raw.invariant.fields;
      number = omega (arith, smaller, c.next_name-next.ensures.limit);
      front = front-more c.args.list.now c.loop-raw.list _ _ c.in_ok-push_written.ensures.ok c.loop-raw.invariant.front;
    }

pub returns-clause-fields : goal.returns-clause-fields
returns-clause-fields g c =
    let read = first-found _ _ _ c.in_ok-raw.ensures.exact c.in_default.is in
    sym (GoesOn-end c.args.area _ _ _ read c.loop-raw.invariant.fields) ∙ ap Ok (append-nil c.loop-raw.list)
