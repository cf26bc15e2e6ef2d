-- The operation at hand, and those that are left.
use Rattle.std.proofs.Common.{sym, ◌∙◌}
use Rattle.tmpl.proofs.OperationsLemmas.{any_here, any_later, any_end}
use Rattle.tmpl.proofs.operation.any_divides_by_zero.Goals as goal

pub returns-then-divides_by_zero : goal.returns-then-divides_by_zero
returns-then-divides_by_zero c =
    sym (any_here c.loop-operation.rest.now c.in-Some.later.now c.in-Some.operation c.in-Some.ensures (sym c.if-divides_by_zero.ensures))
    ∙ c.loop-operation.invariant

pub loop-operation-preserved : goal.loop-operation-preserved
loop-operation-preserved c =
    any_later c.loop-operation.rest.now c.in-Some.later.now c.in-Some.operation c.in-Some.ensures (sym c.if-divides_by_zero.ensures)
    ∙ c.loop-operation.invariant

pub returns : goal.returns
returns c = sym (any_end c.loop-operation.rest.now c.in_default.ensures) ∙ c.loop-operation.invariant
