use Rattle.std.proofs.Common.{◌∙◌, ◌+◌, ◌++◌, [], List, length, take, drop, option_map, refl, sym, ap, subst}
use Rattle.std.specs.Prelude.{option_to_list}
use Rattle.std.proofs.lemmas.List.{take_all}
use Rattle.std.proofs.lemmas.Option.{slice_get_read}
use Rattle.cfg_json.specs.Configs.{Config}
use Rattle.inventory.specs.Items.{entry_fields}
use Rattle.inventory.specs.Naming.{all_named}
use Rattle.inventory.specs.declared.board.Board.{Board}
use Rattle.inventory.proofs.ComingLemmas.{drop_all, listed_all, listed_more, listed_none, IsListed}
use Rattle.inventory.proofs.LessLemmas.{drop_at, take_at}
use Rattle.inventory.proofs.coming.show_boards.Goals as goal

pub loop-board-init : goal.loop-board-init
loop-board-init g c =
    let all : List Config = c.args.shelf.now ++ option_to_list (option_map (λ config. config.now) c.args.plus) in
    listed_none all (entry_fields c.args.moment.now.entries) c.args.boards.now c.new-list.result.items c.new-list.ensures.items

pub loop-board-preserved : goal.loop-board-preserved
loop-board-preserved g c =
    let all : List Config = c.args.shelf.now ++ option_to_list (option_map (λ config. config.now) c.args.plus) in
    let fields_at = entry_fields c.args.moment.now.entries in
    let boards = c.args.boards.now in
    let i = c.loop-board.board-index in
    let board = c.board-item.result in
    let at = slice_get_read boards (length boards) i board refl c.loop-board-test.true c.board-item.is in
    subst (λ (front : List Board). IsListed all fields_at front (drop (i + 1) boards) c.show_board.new.list.items) (sym (take_at boards i board at))
    (listed_more all fields_at (take i boards) (drop (i + 1) boards) board c.loop-board.list.items c.show_board.new.list.items
    (subst (λ (back : List Board). IsListed all fields_at (take i boards) back c.loop-board.list.items) (drop_at boards i board at) c.loop-board.invariant)
    c.in_ok-show_board.ensures)

pub returns-clause-items : goal.returns-clause-items
returns-clause-items g c =
    let all : List Config = c.args.shelf.now ++ option_to_list (option_map (λ config. config.now) c.args.plus) in
    c.loop-board.invariant.items_are
    ∙ ap (all_named all (entry_fields c.args.moment.now.entries)) (take_all c.loop-board.board-index c.args.boards.now c.loop-board-test.false)

pub returns-clause-shown : goal.returns-clause-shown
returns-clause-shown g c =
    let all : List Config = c.args.shelf.now ++ option_to_list (option_map (λ config. config.now) c.args.plus) in
    let fields_at = entry_fields c.args.moment.now.entries in
    let boards = c.args.boards.now in
    let i = c.loop-board.board-index in
    listed_all all fields_at boards c.loop-board.list.items
    (subst (λ (front : List Board). IsListed all fields_at front [] c.loop-board.list.items) (take_all i boards c.loop-board-test.false)
    (subst (λ (back : List Board). IsListed all fields_at (take i boards) back c.loop-board.list.items) (drop_all i boards c.loop-board-test.false)
    c.loop-board.invariant)) c.requires
