use Rattle.std.proofs.Common.{Bool, ◌||◌, take}
use Rattle.cfg_json.specs.declared.item.ItemId.{ItemId}
use Rattle.inventory.specs.Bearers.{is_bearer}
use Rattle.inventory.specs.Shown.{items_of}
use Rattle.inventory.specs.Stocks.{AreNoted}
use Rattle.inventory.specs.declared.tag.Tag.{Tag}
use Rattle.inventory.proofs.tags.note_boards.Given as goal

abbrev pub invariant-loop-board : goal.invariant-loop-board
invariant-loop-board l =
    (test : Tag → ItemId → Bool) → AreNoted l.fn.notes l.tags.entries test
    → AreNoted l.notes l.tags.entries (λ tag id. test tag id || is_bearer (items_of (take l.board-index l.boards)) tag id)
