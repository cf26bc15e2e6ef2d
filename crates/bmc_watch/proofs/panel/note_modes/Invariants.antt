use Rattle.std.proofs.Common.{◌≡◌, take}
use Rattle.bmc_watch.specs.Panels.{modes_of}
use Rattle.bmc_watch.proofs.panel.note_modes.Given as goal

abbrev pub invariant-loop-zone : goal.invariant-loop-zone
invariant-loop-zone l = l.modes.items ≡ modes_of (take l.zone-index l.zones)
