-- The value after the operation at hand.
use Rattle.std.proofs.Common.{sym, ◌∙◌}
use Rattle.tmpl.specs.Operations.{operations_of}
use Rattle.tmpl.proofs.OperationsLemmas.{applied_on, applied_end, applied_none}
use Rattle.tmpl.proofs.operation.compute_all.Goals as goal

pub returns-in_err-value : goal.returns-in_err-value
returns-in_err-value c =
    c.from_residual.ensures ∙ sym (applied_none (operations_of c.in-Some.later.now))
    ∙ sym (applied_on c.loop-operation.rest.now c.in-Some.later.now c.in-Some.operation c.loop-operation.value _ c.in-Some.ensures c.in_err-value.ensures)
    ∙ c.loop-operation.invariant

pub loop-operation-preserved : goal.loop-operation-preserved
loop-operation-preserved c =
    sym (applied_on c.loop-operation.rest.now c.in-Some.later.now c.in-Some.operation c.loop-operation.value _ c.in-Some.ensures c.in_ok-value.ensures)
    ∙ c.loop-operation.invariant

pub returns : goal.returns
returns c = sym (applied_end c.loop-operation.rest.now c.loop-operation.value c.in_default.ensures) ∙ c.loop-operation.invariant
