use Rattle.std.proofs.Common.{rules, Some}
use Rattle.live_sensors.proofs.SlotsLemmas.{contains_found}
use Rattle.live_sensors.proofs.sensors.LiveSensors.find.Goals as goal

pub returns-then-eq-clause-contains : goal.returns-then-eq-clause-contains
returns-then-eq-clause-contains c = contains_found c.args.self.now.names c.args.name.now (Some c.in-Some.slot.now) (search rules)
