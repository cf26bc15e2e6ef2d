use Rattle.std.proofs.Common.{◌∙◌, ◌++◌, ◌∷◌, [], List, take, sym, subst, ap, arith}
use Rattle.std.proofs.lemmas.List.{take_more}
use Rattle.inventory.specs.Shown.{without_keys, AreOrdered}
use Rattle.inventory.specs.declared.board.BoardKey.{BoardKey}
use Rattle.inventory.proofs.ShownLemmas.{ordered_without, without_more, without_none}
use Rattle.inventory.proofs.shown_boards.remove_boards.Goals as goal

pub loop-key-init : goal.loop-key-init
loop-key-init c = record { items = λ order. sym (without_none c.args.boards.now.items); len = omega arith; capacity = search arith }

pub loop-key-preserved : goal.loop-key-preserved
loop-key-preserved c =
    let keys = c.args.keys.now in
    let i = c.loop-key.key-index in
    let key = c.key-item.result in
    let boards = c.args.boards.now.items in
    let within = c.loop-key-test.true in
    record {
      items = λ order.
          let so_far = c.loop-key.invariant.items order in
          c.remove_board.ensures.items (subst AreOrdered (sym so_far) (ordered_without (take i keys) boards order))
          ∙ ap (without_keys (key ∷ [])) so_far ∙ without_more (take i keys) key boards
          ∙ sym (ap (λ (keys : List BoardKey). without_keys keys boards)
          (take_more keys i key within ∙ ap (λ (last : BoardKey). take i keys ++ last ∷ []) (sym c.key-item.is)));
      len = omega arith;
      capacity = c.remove_board.ensures.capacity ∙ c.loop-key.invariant.capacity;
    }
