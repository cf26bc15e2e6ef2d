use Rattle.std.specs.Io.KnownBytes.{Keeps}
use Rattle.bmc_io.proofs.retry.write_uninterrupted.Given as goal

abbrev pub invariant-tries : goal.invariant-tries
invariant-tries g l = Keeps (g.W.Write.contents l.initial.writer) (g.W.Write.contents l.writer)
