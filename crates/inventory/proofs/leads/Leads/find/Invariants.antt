use Rattle.std.proofs.Common.{take}
use Rattle.std.specs.List.{flat_map}
use Rattle.indexmap.specs.IndexMap.{keys}
use Rattle.inventory.specs.Bearers.{ids_in, ids_over}
use Rattle.inventory.specs.Leads.{compared, AreInOrder, AreTold}
use Rattle.inventory.proofs.leads.Leads.find.Given as goal

abbrev pub invariant-loop-i : goal.invariant-loop-i
invariant-loop-i l =
    AreInOrder l.notes l.tags.entries → AreTold (ids_in l.tags.entries) (ids_over l.notes.over.entries l.tags.entries)
    (flat_map (compared (ids_in l.tags.entries) (ids_over l.notes.over.entries l.tags.entries)) (take l.i (keys l.notes.over))) l.fn.self l.self
