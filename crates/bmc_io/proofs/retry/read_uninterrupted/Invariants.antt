use Rattle.std.specs.Io.KnownBytes.{Keeps}
use Rattle.bmc_io.proofs.retry.read_uninterrupted.Given as goal

abbrev pub invariant-tries : goal.invariant-tries
invariant-tries g l = Keeps (g.R.Read.remaining l.initial.reader) (g.R.Read.remaining l.reader)
