use Rattle.std.proofs.Common.{◌||◌, take}
use Rattle.probe_lang.specs.Sights.{has_config}
use Rattle.found_set.specs.Marks.{is_marked, AreMarked}
use Rattle.found_set.proofs.marks.mark_touched.Given as goal

abbrev pub invariant-loop-hit : goal.invariant-loop-hit
invariant-loop-hit l = AreMarked l.marks (λ number. is_marked l.fn.marks number || has_config (take l.hit-index l.hits) number)
