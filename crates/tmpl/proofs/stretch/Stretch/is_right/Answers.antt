use Rattle.std.proofs.Common.{sym, ap, ◌∙◌}
use Rattle.std.specs.Prelude.{not}
use Rattle.tmpl.specs.Operations.{operations_of}
use Rattle.tmpl.proofs.OperationsLemmas.{none_divides}
use Rattle.tmpl.proofs.PiecesLemmas.{plain_right, right_alone}
use Rattle.tmpl.proofs.stretch.Stretch.is_right.Goals as goal

pub returns-in-Plain : goal.returns-in-Plain
returns-in-Plain c = rw c.in-Plain.is (sym (plain_right c.in-Plain.field-0.now))

pub returns-in-Some : goal.returns-in-Some
returns-in-Some c =
    let operations = operations_of c.in-Substitution.behind.now in
    rw (c.in-Substitution.is, c.in-Some.is)
    (ap not c.any_divides_by_zero.ensures ∙ none_divides operations ∙ right_alone c.in-Some.field-0 operations)
