use Rattle.std.proofs.Common.{◌+◌, ◌-◌}
use Rattle.std.specs.Io.KnownBytes.{Consumes}
use Rattle.bmc_io.proofs.std_files.read_to_limit.Given as goal

-- what is gathered was taken from the reader
abbrev pub invariant-loop-reader : goal.invariant-loop-reader
invariant-loop-reader g l = Consumes (g.R.Read.remaining l.fn.reader) (g.R.Read.remaining l.reader) l.bytes.items

abbrev pub decreases-loop-reader : goal.decreases-loop-reader
decreases-loop-reader g l = l.limit + 1 - l.bytes.len
