-- What a text lacks, or that it is a template.
use Rattle.std.proofs.Common.{◌≡◌, ◌<◌, ◌≤◌, ◌+◌, ◌++◌, List, ℕ, Bool, true, false, length, refl, sym, ap, ◌∙◌, arith}
use Rattle.std.specs.Prelude.{nat_lt}
use Rattle.std.proofs.lemmas.Bool.{false≢true}
use Rattle.std.proofs.lemmas.Bool.Decides.{nat_tests}
use Rattle.tmpl.specs.Templates.{is_fixed, is_template}
use Rattle.tmpl.proofs.PiecesLemmas.{empty_not, wrong_not, long_not, right_is, right_read}
use Rattle.tmpl.proofs.template.Template.parse.Goals as goal

-- what did not fit in is too long
too_long : (held n : ℕ) → held ≡ 0 → (held + n ≤ 128 → false ≡ true) → 128 < n
too_long held n empty refused = by (nat_lt 128 n) refl
  where
    by : (b : Bool) → nat_lt 128 n ≡ b → 128 < n
    by true e = grind (arith, nat_tests, e)
    by false e =
        let few : held + n ≤ 128 = grind (arith, nat_tests, e) in
        absurd (false≢true (refused few))

pub returns-then-is_empty : goal.returns-then-is_empty
returns-then-is_empty c = sym (empty_not c.args.text.now (grind (arith, c.if-is_empty.ensures)))

pub returns-then-not-all_right : goal.returns-then-not-all_right
returns-then-not-all_right c = sym (wrong_not c.args.text.now (sym c.if-not-all_right.ensures))

pub invariant_of-result : goal.invariant_of-result
invariant_of-result c =
    let bytes : c.try_push_str.new.self.bytes ≡ c.args.text.now =
    c.in-Ok.ensures.ok ∙ ap (λ (held : List ℕ). held ++ c.args.text.now) c.new-held.ensures in
    let few = c.in-Ok.ensures.variant.0 refl in
    let right = right_is c.args.text.now (grind (arith, c.if-is_empty.ensures)) (omega (arith, few)) (sym c.if-not-all_right.ensures) in (
      ap is_template bytes ∙ right,
      c.is_fixed-fixed.ensures ∙ ap is_fixed (sym bytes),
      rw bytes c.leads_of.ensures,
    )

pub returns-in-Ok : goal.returns-in-Ok
returns-in-Ok c =
    let bytes : c.try_push_str.new.self.bytes ≡ c.args.text.now =
    c.in-Ok.ensures.ok ∙ ap (λ (held : List ℕ). held ++ c.args.text.now) c.new-held.ensures in
    let few = c.in-Ok.ensures.variant.0 refl in
    let right = right_is c.args.text.now (grind (arith, c.if-is_empty.ensures)) (omega (arith, few)) (sym c.if-not-all_right.ensures) in
    sym (right_read c.args.text.now c.try_push_str.new.self.bytes right bytes)

pub returns-in-Err : goal.returns-in-Err
returns-in-Err c =
    sym (long_not c.args.text.now
    (too_long (length c.new-held.result.bytes) (length c.args.text.now) (ap length c.new-held.ensures) c.in-Err.ensures.variant.1))
