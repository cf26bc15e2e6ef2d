-- The names so far, and those of the elements that are left, are all names.
use Rattle.std.proofs.Common.{◌≡◌, drop, map}
use Rattle.serde_json.specs.View.{view}
use Rattle.cfg_json.specs.Names.{template_name}
use Rattle.cfg_json.specs.Values.{each}
use Rattle.cfg_json.proofs.ListsLemmas.{after}
use Rattle.cfg_json.proofs.template_names.push_names.Given as goal

abbrev pub invariant-loop-item : goal.invariant-loop-item
invariant-loop-item l = after l.names (each template_name (map view (drop l.item-index l.items))) ≡ each template_name (map view l.items)
