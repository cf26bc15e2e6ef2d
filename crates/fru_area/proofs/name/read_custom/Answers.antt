use Rattle.std.proofs.Common.{◌≡◌, ◌≤◌, ◌++◌, ℕ, decimal, sym, ap, ◌∙◌, arith}
use Rattle.std.proofs.lemmas.Slice.Eq.{bytes_eq-Decides}
use Rattle.fru_area.specs.Names.{custom_prefix}
use Rattle.fru_area.proofs.NamesLemmas.{parsed_number, name_text-custom}
use Rattle.fru_area.proofs.name.read_custom.Goals as goal

pub returns-in_err-number-clause-none : goal.returns-in_err-number-clause-none
returns-in_err-number-clause-none c =
    let stripped = c.in_ok-digits.ensures.cases in
    rw c.from_residual-in_err-number.ensures (λ number low high same.
    let read = parsed_number _ (custom_prefix c.args.area) c.args.text.now c.in_ok-digits.digits.now _ number c.parse.result c.ok.result
    c.custom_prefix.ensures.text stripped.1.1 stripped.2 c.parse.ensures.value.0 c.ok.ensures.value high same in
    let none = c.in_err-number.was in
    absurd (cc))

pub returns-then-not-is_custom_number-clause-none : goal.returns-then-not-is_custom_number-clause-none
returns-then-not-is_custom_number-clause-none c number low high same =
    let stripped = c.in_ok-digits.ensures.cases in
    let read = parsed_number _ (custom_prefix c.args.area) c.args.text.now c.in_ok-digits.digits.now _ number c.parse.result c.ok.result
    c.custom_prefix.ensures.text stripped.1.1 stripped.2 c.parse.ensures.value.0 c.ok.ensures.value high same in
    let some = c.in_ok-number.was in
    let is : c.in_ok-number.number ≡ number = cc in
    let range : (1 ≤ c.in_ok-number.number) × (c.in_ok-number.number ≤ 2040) = (omega arith, omega arith) in
    let yes = c.is_custom_number.ensures.1 range in
    let no = c.if-not-is_custom_number.true in
    absurd (cc)

pub returns-else-eq-clause-none : goal.returns-else-eq-clause-none
returns-else-eq-clause-none c number low high same =
    let stripped = c.in_ok-digits.ensures.cases in
    let read = parsed_number _ (custom_prefix c.args.area) c.args.text.now c.in_ok-digits.digits.now _ number c.parse.result c.ok.result
    c.custom_prefix.ensures.text stripped.1.1 stripped.2 c.parse.ensures.value.0 c.ok.ensures.value high same in
    let some = c.in_ok-number.was in
    let is : c.in_ok-number.number ≡ number = cc in
    let shown =
    c.as_str.ensures.text
    ∙ c.text.ensures
    ∙ name_text-custom c.args.area c.in_ok-number.number
    ∙ ap (λ (n : ℕ). custom_prefix c.args.area ++ decimal n) is
    ∙ same in
    let differ = rw (sym c.eq.ensures ∙ c.if-eq.false) at (bytes_eq-Decides c.as_str.result.now c.args.text.now) in
    let same_bytes = differ.1 shown in absurd (cc)
