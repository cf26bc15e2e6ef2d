-- Parts of lists.
use Rattle.std.proofs.Common.{◌≡◌, ◌∙◌, ℕ, zero, suc, ◌+◌, List, [], ◌∷◌, ◌++◌, Some, take, drop, slice_get, sym, ap, arith}

pub drop_at : {X : Type 0} (xs : List X) (i : ℕ) (x : X) → slice_get xs i ≡ Some x → drop i xs ≡ x ∷ drop (i + 1) xs
drop_at xs i x at = by xs i at ∙ ap (λ n. x ∷ drop n xs) next
  where
    next : suc i ≡ i + 1
    next = omega arith

    by : {X : Type 0} {x : X} (xs : List X) (i : ℕ) → slice_get xs i ≡ Some x → drop i xs ≡ x ∷ drop (suc i) xs
    by [] i at = absurd (cc)
    by {X} {x} (first ∷ xs) zero at = let same : first ≡ x = cc in ap (λ (each : X). each ∷ xs) same
    by (first ∷ xs) (suc i) at = by xs i at

pub take_at : {X : Type 0} (xs : List X) (i : ℕ) (x : X) → slice_get xs i ≡ Some x → take (i + 1) xs ≡ take i xs ++ x ∷ []
take_at xs i x at = ap (λ n. take n xs) (sym next) ∙ by xs i at
  where
    next : suc i ≡ i + 1
    next = omega arith

    by : {X : Type 0} {x : X} (xs : List X) (i : ℕ) → slice_get xs i ≡ Some x → take (suc i) xs ≡ take i xs ++ x ∷ []
    by [] i at = absurd (cc)
    by {X} {x} (first ∷ xs) zero at = let same : first ≡ x = cc in ap (λ (each : X). each ∷ []) same
    by {X} (first ∷ xs) (suc i) at = ap (λ (rest : List X). first ∷ rest) (by xs i at)
