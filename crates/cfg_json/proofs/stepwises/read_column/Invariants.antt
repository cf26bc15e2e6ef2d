-- The thousandths so far, and those of the elements that are left, are all of them.
use Rattle.std.proofs.Common.{◌≡◌, drop, length, map}
use Rattle.serde_json.specs.View.{view}
use Rattle.cfg_json.specs.Stepwises.{in_milli}
use Rattle.cfg_json.specs.Values.{each, any_milli}
use Rattle.cfg_json.proofs.ListsLemmas.{after}
use Rattle.cfg_json.proofs.stepwises.read_column.Given as goal

abbrev pub invariant-loop-item : goal.invariant-loop-item
invariant-loop-item l = record {
  column : after (map in_milli l.column.items) (each any_milli (map view (drop l.item-index l.items))) ≡ each any_milli (map view l.items);
  room : length l.column.items ≡ l.item-index;
}
