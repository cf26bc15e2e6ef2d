use Rattle.std.proofs.Common.{◌≡◌, subst}
use Rattle.pat_gate.specs.Grammar.{has_match}
use Rattle.pat_gate.specs.Plain.{Plain, written}
use Rattle.pat_gate.proofs.PlainTests.{contains_tells, starts_with_tells, ends_with_tells, equal_tells}
use Rattle.pat_gate.proofs.plain.Plain.found_in.Goals as goal

pub returns-in-false-false : goal.returns-in-false-false
returns-in-false-false c =
    let tested = rw c.as_str-text.ensures at c.contains.ensures.cases in
    subst (λ (plain : Plain). c.contains.result ≡ has_match (written plain) c.args.hay.now) c.self.view_is
    (contains_tells _ c.args.hay.now c.self.invariant c.contains.result c.in-false-false.is-0 c.in-false-false.is-1 tested)

pub returns-in-true-false : goal.returns-in-true-false
returns-in-true-false c =
    let tested = rw c.as_str-text.ensures at c.starts_with.ensures.cases in
    subst (λ (plain : Plain). c.starts_with.result ≡ has_match (written plain) c.args.hay.now) c.self.view_is
    (starts_with_tells _ c.args.hay.now c.self.invariant c.starts_with.result c.in-true-false.is-0 c.in-true-false.is-1 tested)

pub returns-in-false-true : goal.returns-in-false-true
returns-in-false-true c =
    let tested = rw c.as_str-text.ensures at c.ends_with.ensures.cases in
    subst (λ (plain : Plain). c.ends_with.result ≡ has_match (written plain) c.args.hay.now) c.self.view_is
    (ends_with_tells _ c.args.hay.now c.self.invariant c.ends_with.result c.in-false-true.is-0 c.in-false-true.is-1 tested)

pub returns-in-true-true : goal.returns-in-true-true
returns-in-true-true c =
    let tested = rw c.as_str-text.ensures at c.eq.ensures in
    subst (λ (plain : Plain). c.eq.result ≡ has_match (written plain) c.args.hay.now) c.self.view_is
    (equal_tells _ c.args.hay.now c.self.invariant c.eq.result c.in-true-true.is-0 c.in-true-true.is-1 tested)
