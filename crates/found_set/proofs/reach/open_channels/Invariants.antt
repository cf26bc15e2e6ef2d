use Rattle.std.proofs.Common.{◌||◌, take}
use Rattle.std.specs.List.{list_any}
use Rattle.found_set.specs.Marks.{is_marked, AreMarked}
use Rattle.found_set.specs.Buses.{leads}
use Rattle.found_set.proofs.reach.open_channels.Given as goal

abbrev pub invariant-loop-channel : goal.invariant-loop-channel
invariant-loop-channel l = AreMarked l.reach (λ bus. is_marked l.initial.reach bus || list_any (leads l.found bus) (take l.channel-index l.channels))
