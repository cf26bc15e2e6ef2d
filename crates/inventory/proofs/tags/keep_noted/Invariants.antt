use Rattle.std.proofs.Common.{◌≡◌, ◌+◌, ◌≤◌, length}
use Rattle.indexmap.specs.IndexMap.{spare}
use Rattle.inventory.specs.Bearers.{ids_over}
use Rattle.inventory.specs.declared.tag.Tag.{Tag}
use Rattle.inventory.proofs.tags.keep_noted.Given as goal

abbrev pub invariant-loop : goal.invariant-loop
invariant-loop l = record {
  ids : (tag : Tag) → ids_over l.over.entries l.tags.entries tag ≡ ids_over l.fn.over.entries l.fn.tags.entries tag;
  left : length l.over.entries + l.counter ≡ l.end;
  room : length l.over.entries ≤ spare l.tags;
}
