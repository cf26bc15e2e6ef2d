use Rattle.std.proofs.Common.{sym, ap, ◌∙◌, decimal, ℕ}
use Rattle.std.specs.Prelude.{Option, option_map}
use Rattle.tmpl.specs.Operations.{operations_of, applied_all}
use Rattle.tmpl.specs.Stretches.{joined}
use Rattle.tmpl.proofs.OperationsLemmas.{applied_none}
use Rattle.tmpl.proofs.render.push_value.Goals as goal

pub returns-in_err-number : goal.returns-in_err-number
returns-in_err-number c =
    rw c.from_residual.ensures
    (ap (λ (value : Option ℕ). joined c.args.out.now.bytes (option_map decimal value))
    (ap (λ (number : Option ℕ). applied_all number (operations_of c.args.behind.now)) (sym c.in_err-number.ensures)
    ∙ applied_none (operations_of c.args.behind.now)))
