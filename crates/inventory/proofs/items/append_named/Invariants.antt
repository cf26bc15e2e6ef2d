use Rattle.std.proofs.Common.{◌≡◌, ◌++◌, drop}
use Rattle.std.specs.List.{filter_map, enumerate_from}
use Rattle.tmpl.specs.Rendering.{fields_of}
use Rattle.inventory.specs.Naming.{named_among, named_item}
use Rattle.inventory.proofs.items.append_named.Given as goal

abbrev pub invariant-loop-position : goal.invariant-loop-position
invariant-loop-position l =
    l.items.items ++ filter_map (named_item l.board (fields_of l.fru)) (enumerate_from l.position (drop l.position l.exposes))
    ≡ l.fn.items.items ++ named_among l.board (fields_of l.fru) l.exposes
