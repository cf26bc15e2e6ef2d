use Rattle.std.proofs.Common.{◌≡◌, ◌∙◌, ◌+◌, ◌++◌, ◌∷◌, [], ◌||◌, true, List, take, sym, subst, ap}
use Rattle.std.proofs.lemmas.List.{take_all, take_more}
use Rattle.cfg_json.specs.declared.item.Item.{Item}
use Rattle.std.proofs.lemmas.Grind.{flat_map-append}
use Rattle.std.proofs.lemmas.List.{append-nil}
use Rattle.inventory.specs.Bearers.{is_bearer}
use Rattle.inventory.specs.Shown.{items_of}
use Rattle.inventory.specs.Stocks.{AreNoted}
use Rattle.inventory.specs.declared.shown.Shown.{Shown}
use Rattle.inventory.proofs.NotesLemmas.{noted_more, noted_none}
use Rattle.inventory.proofs.tags.note_boards.Goals as goal

pub loop-board-init : goal.loop-board-init
loop-board-init c test noted = noted_none true c.args.notes.now c.args.tags.now.entries test noted

pub loop-board-preserved : goal.loop-board-preserved
loop-board-preserved c test noted =
    let boards = c.args.boards.now in
    let i = c.loop-board.board-index in
    let board = c.board-item.result in
    let notes = c.note_items.new.notes in
    let tags = c.args.tags.now.entries in
    let more : items_of (take i boards) ++ board.items.items ≡ items_of (take (i + 1) boards) =
    sym (ap items_of (take_more boards i board c.loop-board-test.true ∙ ap (λ (last : Shown). take i boards ++ last ∷ []) (sym c.board-item.is))
    ∙ flat_map-append (λ (board : Shown). board.items.items) (take i boards) (board ∷ [])
    ∙ ap (λ (items : List Item). items_of (take i boards) ++ items) (append-nil board.items.items)) in
    noted_more true notes tags test (items_of (take i boards)) board.items.items (items_of (take (i + 1) boards)) more
    (subst (λ (items : List Item). AreNoted notes tags (λ tag id. (test tag id || is_bearer (items_of (take i boards)) tag id) || is_bearer items tag id))
    c.deref.ensures.value (c.in_ok-note_items.ensures _ (c.loop-board.invariant test noted)))

pub returns : goal.returns
returns c test noted =
    subst (λ (boards : List Shown). AreNoted c.loop-board.notes c.args.tags.now.entries
    (λ tag id. test tag id || is_bearer (items_of boards) tag id))
    (take_all c.loop-board.board-index c.args.boards.now c.loop-board-test.false) (c.loop-board.invariant test noted)
