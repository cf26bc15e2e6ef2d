-- The operation at the front, or what it lacks.
use Rattle.std.proofs.Common.{◌≡◌, length, drop, take, ◌-◌, get_or, sym, ap, ◌∙◌, arith}
use Rattle.std.proofs.lemmas.Bool.Decides.{nat_tests}
use Rattle.tmpl.specs.Operations.{digits}
use Rattle.tmpl.proofs.OperationsLemmas.{finds_operation, no_space, no_sign, no_number, operand_cut, tail_is, within_text}
use Rattle.tmpl.proofs.operation.next_operation.Goals as goal
use Rattle.tmpl.proofs.operation.next_operation.Goals.{in_default-via-then-text-lt3, in_default-via-else-text-lt3+in-32+in_default-1}
use Rattle.tmpl.proofs.operation.next_operation.Goals.{in_default-via-else-text-lt3+in_default-1}

pub returns-in_default : goal.returns-in_default
returns-in_default c =
    elim c.in_default.branch [
      | in_default-via-then-text-lt3 w ↦ no_space c.args.text.now (λ first third. let within = within_text c.args.text.now 2 third in grind (arith, nat_tests))
      | in_default-via-else-text-lt3+in-32+in_default-1 w ↦ no_space c.args.text.now (λ first third. grind (arith, nat_tests))
      | in_default-via-else-text-lt3+in_default-1 w ↦ no_space c.args.text.now (λ first third. grind (arith, nat_tests))
    ]

pub returns-in_err-operator : goal.returns-in_err-operator
returns-in_err-operator c = rw c.from_residual.ensures (no_sign c.args.text.now (sym c.in_err-operator.ensures))

pub returns-in_err-number : goal.returns-in_err-number
returns-in_err-number c =
    let behind = drop 3 c.args.text.now in
    let tail = tail_is 3 c.args.text.now in
    let cut = operand_cut behind c.operand_len.result (rw tail at c.operand_len.ensures.exact) in
    rw c.from_residual-in_err-number.ensures
    (no_number c.args.text.now c.in_ok-operator.operator (sym c.in_ok-operator.ensures)
    (ap (digits 5) (sym (rw tail at c.split_at.ensures.front ∙ cut)) ∙ sym c.in_err-number.ensures.value))

pub returns : goal.returns
returns c =
    let text = c.args.text.now in
    let first : get_or text 0 0 ≡ 32 = omega arith in
    let third : get_or text 2 0 ≡ 32 = omega arith in
    finds_operation text (take (length text - 3) (drop 3 text)) c.split_at.result.0.now c.split_at.result.1.now c.in_ok-operator.operator c.in_ok-number.field-0
    c.operand_len.result first third c.in_ok-operator.ensures (tail_is 3 text) c.in-32.len_at_least c.operand_len.ensures.exact c.operand_len.ensures.within
    c.split_at.ensures.front c.split_at.ensures.back c.in_ok-number.ensures.value
