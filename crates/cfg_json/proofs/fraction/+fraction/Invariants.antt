-- Whether the items and members that are left have a fraction says it of all.
use Rattle.std.proofs.Common.{◌≡◌, drop}
use Rattle.serde_json.specs.View.{items_view, members_view}
use Rattle.serde_json.specs.Written.{items_have_float, members_have_float}
use Rattle.cfg_json.proofs.fraction.+fraction.Given as goal

abbrev pub invariant-items_have_fraction-items : goal.invariant-items_have_fraction-items
invariant-items_have_fraction-items l = items_have_float (items_view (drop l.item-index l.item-items)) ≡ items_have_float (items_view l.items.items)

abbrev pub invariant-members_have_fraction-members : goal.invariant-members_have_fraction-members
invariant-members_have_fraction-members l = members_have_float (members_view l._key-iterator) ≡ members_have_float (members_view l.members.entries)
