-- What is seen of a sink, and what a write does to it.
use Rattle.std.specs.Prelude.{ℕ, ◌≤◌, ◌<◌, ◌≡◌, ◌++◌, List, length, take, Result, IfOk, MatchResult}
use Rattle.bmc_base.specs.Calls.{Calls}
use Rattle.bmc_io.specs.Told.{Told, added}

-- what the sink tells of the bytes that it took, and its calls
pub record Output : Type 0 where
  pub taken : Told
  pub calls : Calls

-- on Ok, at least one byte of the piece is taken, and no more than it has
abbrev pub TakesSome : {E : Type 0} → Result ℕ E → List ℕ → Type 0
TakesSome result piece = IfOk result (λ n. (0 < n) × (n ≤ length piece))

-- the first n bytes of the piece are taken at Ok n, and nothing at Err
abbrev pub WriteAdds : {E : Type 0} → Told → Told → Result ℕ E → List ℕ → Type 0
WriteAdds old new result piece = MatchResult result (λ n. new ≡ added old (take n piece)) (λ _. new ≡ old)

-- a front of the bytes is taken, and the rest is not
pub record AppendsFront (old new : Told) (bytes : List ℕ) : Type 0 where
  pub front : List ℕ
  pub rest : List ℕ
  pub parts : bytes ≡ front ++ rest
  pub taken : new ≡ added old front
