use Rattle.std.proofs.Common.{refl}
use Rattle.std.specs.Fmt.{digits}
use Rattle.bmc_gen.proofs.law.sample_examples.Goals as goal

pub returns-clause-bare : goal.returns-clause-bare
unfolding digits
returns-clause-bare c = refl
