use Rattle.std.proofs.Common.{◌∙◌, ◌++◌, List, Option, ap₂, option_map, option_to_list}
use Rattle.fru_area.specs.declared.field.Field.{Field}
use Rattle.cfg_json.specs.Configs.{Config}
use Rattle.cfg_json.specs.declared.expose.Expose.{Expose}
use Rattle.inventory.specs.Items.{entry_fields, rendered_items}
use Rattle.inventory.proofs.ItemsLemmas.{items_more, items_all}
use Rattle.inventory.proofs.items.list_items.Goals as goal

pub loop-board-preserved : goal.loop-board-preserved
loop-board-preserved g c =
    let all : List Config = c.args.shelf.now ++ option_to_list (option_map (λ config. config.now) c.args.plus) in
    let board = c.board-item.result in
    items_more all (entry_fields c.args.moment.now.entries) c.args.boards.now c.loop-board.board-index c.loop-board.items.items c.loop-board.invariant board
    c.append_items.new.items.items c.loop-board-test.true c.board-item.is
    (c.in_ok-append_items.ensures
    ∙ ap₂ (λ (fields : Option (List Field)) (exposes : List Expose). c.loop-board.items.items ++ rendered_items board fields exposes) c.record_at.ensures
    c.exposes_at-exposes.ensures.value)

pub returns : goal.returns
returns g c =
    let all : List Config = c.args.shelf.now ++ option_to_list (option_map (λ config. config.now) c.args.plus) in
    items_all all (entry_fields c.args.moment.now.entries) c.args.boards.now c.loop-board.board-index c.loop-board.items.items c.loop-board.invariant
    c.loop-board-test.false
