-- Sums of counted evaluations.
use Rattle.std.proofs.Common.{◌≡◌, ℕ, ◌+◌, ◌≤◌, ap, sym, ◌∙◌, refl, arith}
use Rattle.bmc_base.specs.Counts.{raised}
use Rattle.bmc_base.specs.Steps.{Counts, IsWithin, with_evals}

raised_none : (count : ℕ) → count ≡ raised count 0
raised_none count = omega arith

raised_twice : (count m n : ℕ) → raised (raised count m) n ≡ raised count (m + n)
raised_twice count m n = omega arith

pub no_evals : (steps : Counts) → steps ≡ with_evals steps 0
no_evals steps = ap (λ (n : ℕ). record { matches = steps.matches; evals = n }) (raised_none steps.evals)

pub evals_more : (first second third : Counts) (m n k : ℕ) → second ≡ with_evals first m → third ≡ with_evals second n → k ≡ m + n
    → third ≡ with_evals first k
evals_more first second third m n k once twice total =
    twice ∙ ap (λ (counts : Counts). with_evals counts n) once
    ∙ ap (λ (evals : ℕ). record { matches = first.matches; evals = evals }) (raised_twice first.evals m n ∙ ap (raised first.evals) (sym total))

-- one after the other, within the sum
pub within_sum : (first second third : Counts) (m n limit : ℕ) → IsWithin first second m → IsWithin second third n → m + n ≤ limit → IsWithin first third limit
within_sum first second third m n limit one two fits = record {
  more = one.more + two.more;
  within = omega (arith, one.within, two.within);
  counted = evals_more first second third one.more two.more (one.more + two.more) one.counted two.counted refl;
}
