-- A walk over two lists at once ends where one of them does.
use Rattle.std.proofs.Common.{◌≡◌, ◌∙◌, ℕ, List, [], ◌∷◌, ◌++◌, length, refl, ap, sym, append-nil, inl, inr, arith}
use Rattle.std.specs.Prelude.{◌⊎◌}
use Rattle.std.specs.List.{flat_map, zip}

pub either_ends : {X Y : Type 0} (P : X → Type 0) (Q : Y → Type 0) (n m : ℕ) → ((x : X) × ((n ≡ 0) × P x)) ⊎ ((y : Y) × ((m ≡ 0) × Q y)) → (n ≡ 0) ⊎ (m ≡ 0)
either_ends P Q n m (inl here) = inl here.1.0
either_ends P Q n m (inr here) = inr here.1.0

none_paired : {X Y : Type 0} (xs : List X) (ys : List Y) → (length xs ≡ 0) ⊎ (length ys ≡ 0) → zip xs ys ≡ []
none_paired [] ys ends = refl
none_paired (x ∷ xs) [] ends = refl
none_paired (x ∷ xs) (y ∷ ys) (inl none) = absurd (omega (arith, none))
none_paired (x ∷ xs) (y ∷ ys) (inr none) = absurd (omega (arith, none))

-- what was told by then is all
pub told_all : {X Y Z : Type 0} (image : X × Y → List Z) (xs : List X) (ys : List Y) (told all : List Z) → (length xs ≡ 0) ⊎ (length ys ≡ 0)
    → told ++ flat_map image (zip xs ys) ≡ all → told ≡ all
told_all {X} {Y} {Z} image xs ys told all ends is =
    sym (ap (λ (pairs : List (X × Y)). told ++ flat_map image pairs) (none_paired xs ys ends) ∙ append-nil told) ∙ is
