use Rattle.std.proofs.Common.{◌≡◌, ◌++◌, List, drop, option_map, option_to_list}
use Rattle.cfg_json.specs.Configs.{Config}
use Rattle.inventory.specs.Items.{entry_fields, items}
use Rattle.inventory.proofs.items.list_items.Given as goal

abbrev pub invariant-loop-board : goal.invariant-loop-board
invariant-loop-board g l =
    let all : List Config = l.shelf ++ option_to_list (option_map (λ config. config.now) l.plus) in
    l.items.items ++ items all (entry_fields l.moment.entries) (drop l.board-index l.boards) ≡ items all (entry_fields l.moment.entries) l.boards
