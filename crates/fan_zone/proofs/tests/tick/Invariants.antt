use Rattle.std.proofs.Common.{List}
use Rattle.cfg_json.specs.declared.item.Item.{Item}
use Rattle.fan_zone.specs.Machine.{Stays}
use Rattle.fan_zone.proofs.tests.tick.Given as goal

abbrev pub invariant-loop-n : goal.invariant-loop-n
invariant-loop-n g l = (live : List Item) → Stays live l.fn.zones → Stays live l.zones
