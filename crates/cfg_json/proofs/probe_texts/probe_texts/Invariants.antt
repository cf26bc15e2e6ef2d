-- The texts so far, and those of the elements that are left, are all texts.
use Rattle.std.proofs.Common.{◌≡◌, drop, length, map}
use Rattle.serde_json.specs.View.{view}
use Rattle.cfg_json.specs.Values.{each, text_only}
use Rattle.cfg_json.proofs.ListsLemmas.{after}
use Rattle.cfg_json.proofs.probe_texts.probe_texts.Given as goal

abbrev pub invariant-loop-item : goal.invariant-loop-item
invariant-loop-item l = record {
  texts : after (map (λ text. text.now) l.texts.items) (each text_only (map view (drop l.item-index l.items))) ≡ each text_only (map view l.items);
  room : length l.texts.items ≡ l.item-index;
}
