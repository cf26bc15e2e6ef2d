-- A chain, one link on.
use Rattle.std.proofs.Common.{◌≡◌, ℕ, zero, suc, ◌-◌, ◌<◌, ◌≤◌, List, [], ◌∷◌, length, drop, Option, Some, None, refl, ap, arith}
use Rattle.tmpl.specs.Chains.{chain, chain_behind}

-- what stands before a chain is passed over
chain_on : {A : Type 0} (find_at : List ℕ → Option (A × ℕ)) (n : ℕ) (text : List ℕ) → chain_behind find_at n text ≡ chain find_at (drop n text)
unfolding chain_behind
chain_on find_at zero text = refl
chain_on find_at (suc n) [] = refl
chain_on find_at (suc n) (byte ∷ text) = chain_on find_at n text

pub chain_found : {A : Type 0} (find_at : List ℕ → Option (A × ℕ)) (text : List ℕ) (x : A) (n : ℕ) → find_at text ≡ Some (x, n) → 0 < n → n ≤ length text
    → chain find_at text ≡ (x, n) ∷ chain find_at (drop n text)
unfolding chain_behind
chain_found find_at [] x n found some within = absurd (omega arith)
chain_found find_at (byte ∷ text) x zero found some within = absurd (omega arith)
chain_found find_at (byte ∷ text) x (suc n) found some within =
    let one : suc n - 1 ≡ n = omega arith in
    rw (found, one) (ap (λ links. (x, suc n) ∷ links) (chain_on find_at n text))

pub chain_end : {A : Type 0} (find_at : List ℕ → Option (A × ℕ)) (text : List ℕ) → find_at text ≡ None → chain find_at text ≡ []
unfolding chain_behind
chain_end find_at [] none = refl
chain_end find_at (byte ∷ text) none = rw none refl
