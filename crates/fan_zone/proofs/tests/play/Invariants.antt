use Rattle.std.proofs.Common.{List}
use Rattle.cfg_json.specs.declared.item.Item.{Item}
use Rattle.fan_zone.specs.Machine.{Stays}
use Rattle.fan_zone.proofs.tests.play.Given as goal

abbrev pub invariant-loop-row : goal.invariant-loop-row
invariant-loop-row g l = (live : List Item) → Stays live l.fn.zones → Stays live l.zones
