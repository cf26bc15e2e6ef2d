-- What is seen of a source.
use Rattle.std.specs.Prelude.{ℕ, List, Option}
use Rattle.bmc_base.specs.Calls.{Calls}

-- the bytes that are left, where the source tells them, and its calls
pub record Input : Type 0 where
  pub left : Option (List ℕ)
  pub calls : Calls
