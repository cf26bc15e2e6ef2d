use Rattle.std.proofs.Common.{◌≡◌, ◌++◌, map, take}
use Rattle.match_rows.specs.Matching.{buses_at, channel_to}
use Rattle.match_rows.proofs.matching.append_buses.Given as goal

abbrev pub invariant-loop-template : goal.invariant-loop-template
invariant-loop-template l = l.channels ≡ l.fn.channels ++ map (channel_to l.number) (buses_at l.spot (take l.template-index l.templates))
