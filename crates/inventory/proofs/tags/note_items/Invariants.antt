use Rattle.std.proofs.Common.{Bool, take}
use Rattle.cfg_json.specs.declared.item.ItemId.{ItemId}
use Rattle.inventory.specs.Bearers.{is_bearer, noted_by}
use Rattle.inventory.specs.Stocks.{AreNoted}
use Rattle.inventory.specs.declared.tag.Tag.{Tag}
use Rattle.inventory.proofs.tags.note_items.Given as goal

abbrev pub invariant-loop-item : goal.invariant-loop-item
invariant-loop-item l =
    (test : Tag → ItemId → Bool) → AreNoted l.fn.notes l.tags.entries test
    → AreNoted l.notes l.tags.entries (λ tag id. noted_by l.comes (test tag id) (is_bearer (take l.item-index l.items) tag id))
