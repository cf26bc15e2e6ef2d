use Rattle.fan_zone.specs.Machine.{machine}
use Rattle.fan_zone.proofs.tests.play_rows.Goals as goal

pub returns : goal.returns
returns g c = c.play-2.ensures (machine 0) c.same_zones.ensures
