-- A sink that counts.
use Rattle.std.specs.Prelude.{ℕ, Option, Some, None}
use Rattle.bmc_io.specs.Told.{Told}
use Rattle.bmc_io.specs.Told.Told.{Nothing, Count}

-- what is told by a number of bytes, or by none
abbrev pub told_by : Option ℕ → Told
told_by None = Nothing
told_by (Some count) = Count count
