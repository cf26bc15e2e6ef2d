-- None of the operations so far divides by 0.
use Rattle.std.proofs.Common.{◌≡◌, length}
use Rattle.std.specs.List.{list_any}
use Rattle.tmpl.specs.Operations.{operations_of, divides_by_zero}
use Rattle.tmpl.proofs.operation.any_divides_by_zero.Given as goal

abbrev pub invariant-loop-operation : goal.invariant-loop-operation
invariant-loop-operation l = list_any divides_by_zero (operations_of l.rest) ≡ list_any divides_by_zero (operations_of l.text)

abbrev pub decreases-loop-operation : goal.decreases-loop-operation
decreases-loop-operation l = length l.rest
