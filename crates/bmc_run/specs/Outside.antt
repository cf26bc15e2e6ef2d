-- The outside of a run.
use Rattle.bmc_io.specs.Sources.{Input}
use Rattle.bmc_io.specs.Sinks.{Output}

-- what is seen of the source of the script, and of the sink of what is printed
pub record Outside : Type 0 where
  pub input : Input
  pub output : Output

abbrev pub outside : Input → Output → Outside
outside input output = record { input = input; output = output }
