-- A sink over a writer of the standard library.
use Rattle.std.specs.Prelude.{ℕ, List, Option}
use Rattle.bmc_base.specs.Calls.{Calls}

-- the bytes that the writer holds, where it tells them, and the calls of the sink
pub record WriterOutput : Type 0 where
  pub contents : Option (List ℕ)
  pub calls : Calls
