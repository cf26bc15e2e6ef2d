-- One substitution with nothing behind it, or something else.
use Rattle.std.proofs.Common.{sym, ◌∙◌}
use Rattle.tmpl.specs.Operations.{operations_of}
use Rattle.tmpl.proofs.PiecesLemmas.{single_end, single_plain, single_substitution}
use Rattle.tmpl.proofs.stretch.is_single.Goals as goal

pub returns-in-Some-Substitution-default : goal.returns-in-Some-Substitution-default
returns-in-Some-Substitution-default c =
    let begins = c.in-Some-Substitution-default.ensures in
    let split = rw c.in-Some-Substitution-default.field-0-0-is at begins.0 in
    c.is_empty.ensures
    ∙ sym (single_substitution c.args.text.now c.in-Some-Substitution-default.rest.now c.in-Some-Substitution-default.field-0-0-0
    (operations_of c.in-Some-Substitution-default.field-0-0-1.now) split)

pub returns-in-Some-Plain-default : goal.returns-in-Some-Plain-default
returns-in-Some-Plain-default c =
    let begins = c.in-Some-Plain-default.ensures in
    let split = rw c.in-Some-Plain-default.field-0-0-is at begins.0 in
    let some = rw c.in-Some-Plain-default.field-0-0-is at begins.1 in
    sym (single_plain c.args.text.now c.in-Some-Plain-default.field-0-0-0.now c.in-Some-Plain-default.field-0-1.now split some)

pub returns-in-None : goal.returns-in-None
returns-in-None c = sym (single_end c.args.text.now c.in-None.ensures)
