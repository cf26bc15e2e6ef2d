use Rattle.std.proofs.Common.{◌+◌, length}
use Rattle.event_log.proofs.ListedLemmas.{ListedSoFar}
use Rattle.event_log.proofs.log.Log.entries.Given as goal

abbrev pub invariant-list : goal.invariant-list
invariant-list l = ListedSoFar l.self l.entries l.errors l.infos

abbrev pub decreases-list : goal.decreases-list
decreases-list l = length l.errors + length l.infos
