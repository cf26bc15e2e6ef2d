-- The calls of files, and the names that were answered Failed.
use Rattle.std.specs.Prelude.{ℕ, ◌≡◌, List, [], ◌∷◌, ◌++◌}
use Rattle.bmc_base.specs.Calls.{Calls, with_failure}
use Rattle.bmc_io.specs.declared.files.FileFault.{FileFault}
use Rattle.bmc_io.specs.declared.files.FileFault.TheVariants.{Failed, OutOfMemory}

pub record Failures : Type 0 where
  pub calls : Calls
  pub names : List (List ℕ)

-- the last call failed and its name joins the list, or there was no memory for it
abbrev pub AddsName : Failures → Failures → List ℕ → FileFault → Type 0
AddsName old new name Failed = new ≡ record { calls = with_failure old.calls; names = old.names ++ name ∷ [] }
AddsName old new name OutOfMemory = new ≡ old
