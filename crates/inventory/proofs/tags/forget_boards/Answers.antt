use Rattle.std.proofs.Common.{◌∙◌, ◌+◌, ◌++◌, ◌∷◌, [], ◌&&◌, not, List, take, sym, subst, ap}
use Rattle.std.proofs.lemmas.List.{take_all, take_more}
use Rattle.cfg_json.specs.declared.item.Item.{Item}
use Rattle.inventory.specs.Bearers.{is_bearer}
use Rattle.inventory.specs.Follows.{on}
use Rattle.inventory.specs.Shown.{items_of}
use Rattle.inventory.specs.Stocks.{AreNoted}
use Rattle.inventory.specs.declared.board.BoardKey.{BoardKey}
use Rattle.inventory.proofs.NotesLemmas.{gone_on, gone_on_none}
use Rattle.inventory.proofs.tags.forget_boards.Goals as goal

pub loop-key-init : goal.loop-key-init
loop-key-init c shown test noted = gone_on_none c.args.notes.now c.args.tags.now.entries test (items_of c.args.boards.now) noted

pub loop-key-preserved : goal.loop-key-preserved
loop-key-preserved c shown test noted =
    let keys = c.args.keys.now in
    let i = c.loop-key.key-index in
    let key = c.key-item.result in
    let notes = c.note_items.new.notes in
    let tags = c.args.tags.now.entries in
    let items = items_of c.args.boards.now in
    gone_on notes tags test (take i keys) (take (i + 1) keys) key items
    (sym (take_more keys i key c.loop-key-test.true ∙ ap (λ (last : BoardKey). take i keys ++ last ∷ []) (sym c.key-item.is)))
    (subst (λ (gone : List Item). AreNoted notes tags
    (λ tag id. (test tag id && not (is_bearer (on (take i keys) items) tag id)) && not (is_bearer gone tag id)))
    (c.board_items.ensures shown) (c.in_ok-note_items.ensures _ (c.loop-key.invariant shown test noted)))

pub returns : goal.returns
returns c shown test noted =
    subst (λ (keys : List BoardKey). AreNoted c.loop-key.notes c.args.tags.now.entries
    (λ tag id. test tag id && not (is_bearer (on keys (items_of c.args.boards.now)) tag id)))
    (take_all c.loop-key.key-index c.args.keys.now c.loop-key-test.false) (c.loop-key.invariant shown test noted)
