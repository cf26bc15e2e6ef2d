-- They were looked at, and none was bad.
use Rattle.bmc_core.proofs.input_health.health_after.Goals as goal

pub returns-in-Some : goal.returns-in-Some
returns-in-Some g c = (c.good_until.ensures.last c.in-Some.last c.in-Some.is).good
