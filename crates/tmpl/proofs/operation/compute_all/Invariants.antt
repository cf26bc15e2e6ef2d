-- The value so far, under the operations that are left.
use Rattle.std.proofs.Common.{◌≡◌, Some, length}
use Rattle.tmpl.specs.Operations.{operations_of, applied_all}
use Rattle.tmpl.proofs.operation.compute_all.Given as goal

abbrev pub invariant-loop-operation : goal.invariant-loop-operation
invariant-loop-operation l = applied_all (Some l.value) (operations_of l.rest) ≡ applied_all (Some l.fn.value) (operations_of l.text)

abbrev pub decreases-loop-operation : goal.decreases-loop-operation
decreases-loop-operation l = length l.rest
