-- An operation more is passed over.
use Rattle.std.proofs.Common.{arith}
use Rattle.tmpl.proofs.OperationsLemmas.{len_found, shorter_found, behind_found, cut_found, len_end, len_step, drop_step}
use Rattle.tmpl.proofs.operation.operations_len.Goals as goal

pub loop-later-preserved : goal.loop-later-preserved
loop-later-preserved c =
    let text = c.args.text.now in
    let rest = c.loop-later.rest.now in
    let later = c.in-Some.later.now in
    let shorter = shorter_found rest later c.in-Some.field-0-0 c.in-Some.ensures in
    record {
      len = len_step text rest later c.loop-later.invariant.len (len_found rest later c.in-Some.field-0-0 c.in-Some.ensures);
      behind =
          drop_step text rest later c.loop-later.invariant.behind c.loop-later.invariant.within shorter
          (behind_found rest later c.in-Some.field-0-0 c.in-Some.ensures);
      within = omega (arith, shorter, c.loop-later.invariant.within);
      cut = λ utf8. cut_found rest later c.in-Some.field-0-0 c.in-Some.ensures (c.loop-later.invariant.cut utf8);
    }

pub returns-clause-exact : goal.returns-clause-exact
returns-clause-exact c =
    let end = len_end c.loop-later.rest.now c.in_default.ensures in
    omega (arith, end, c.loop-later.invariant.len, c.loop-later.invariant.within)
