use Rattle.std.proofs.Common.{◌≡◌, ◌++◌, take}
use Rattle.std.specs.Prelude.{filter_map}
use Rattle.std.specs.Option.{option_or}
use Rattle.inventory.specs.Follows.{item_of}
use Rattle.inventory.specs.Shown.{items_of, AreShown}
use Rattle.inventory.proofs.leads.append_copies.Given as goal

abbrev pub invariant-loop-id : goal.invariant-loop-id
invariant-loop-id l =
    AreShown l.boards → AreShown l.others
    → l.list ≡ l.fn.list
    ++ filter_map (λ id. option_or (item_of (items_of l.boards) id) (item_of (items_of l.others) id)) (take l.id-index l.ids)
