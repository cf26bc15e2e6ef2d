use Rattle.std.proofs.Common.{Bool, ◌&&◌, not, take}
use Rattle.cfg_json.specs.declared.item.ItemId.{ItemId}
use Rattle.inventory.specs.Bearers.{is_bearer}
use Rattle.inventory.specs.Follows.{on}
use Rattle.inventory.specs.Shown.{items_of, AreShown}
use Rattle.inventory.specs.Stocks.{AreNoted}
use Rattle.inventory.specs.declared.tag.Tag.{Tag}
use Rattle.inventory.proofs.tags.forget_boards.Given as goal

abbrev pub invariant-loop-key : goal.invariant-loop-key
invariant-loop-key l =
    AreShown l.boards → (test : Tag → ItemId → Bool) → AreNoted l.fn.notes l.tags.entries test
    → AreNoted l.notes l.tags.entries (λ tag id. test tag id && not (is_bearer (on (take l.key-index l.keys) (items_of l.boards)) tag id))
