-- Things that stand one behind the other in a text.
use Rattle.std.specs.Prelude.{ℕ, zero, suc, ◌-◌, List, [], ◌∷◌, Option, Some, None}

-- what is found, with the number of bytes that it takes, and the chain behind it
abbrev pub linked : {A : Type 0} → Option (A × ℕ) → (ℕ → List (A × ℕ)) → List (A × ℕ)
linked None later = []
linked (Some found) later = found ∷ later (found.1 - 1)

-- the chain in a text of which so many bytes at the front belong to what stands before them
unfoldable pub chain_behind : {A : Type 0} → (List ℕ → Option (A × ℕ)) → ℕ → List ℕ → List (A × ℕ)
chain_behind find_at n [] = []
chain_behind find_at (suc n) (byte ∷ text) = chain_behind find_at n text
chain_behind find_at zero (byte ∷ text) = linked (find_at (byte ∷ text)) (λ n. chain_behind find_at n text)

-- what is found at the front of a text, and then behind it again, as long as something is found
abbrev pub chain : {A : Type 0} → (List ℕ → Option (A × ℕ)) → List ℕ → List (A × ℕ)
chain find_at text = chain_behind find_at 0 text
