use Rattle.std.proofs.Common.{◌∙◌}
use Rattle.tmpl.proofs.OperationsLemmas.{has_found}
use Rattle.tmpl.proofs.operation.has_operation.Goals as goal

pub returns : goal.returns
returns c = c.is_some.ensures ∙ has_found c.args.text.now c.next_operation.result c.next_operation.ensures
