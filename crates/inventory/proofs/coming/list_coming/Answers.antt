-- A naming board is counted and listed, and no other is.
use Rattle.std.proofs.Common.{◌≡◌, ◌∙◌, ◌+◌, ◌++◌, ℕ, true, false, cond, List, length, take, option_map, refl, sym, ap, subst}
use Rattle.std.specs.Prelude.{option_to_list}
use Rattle.std.specs.Option.{unwrap_or}
use Rattle.std.proofs.lemmas.Option.{slice_get_read}
use Rattle.cfg_json.specs.Configs.{Config}
use Rattle.inventory.specs.Boards.{has_board}
use Rattle.inventory.specs.Follows.{kept_with, last_of}
use Rattle.inventory.specs.Indexes.{index_in, index_of, kept_of}
use Rattle.inventory.specs.Lists.{board_list}
use Rattle.inventory.specs.Naming.{is_naming, naming}
use Rattle.inventory.specs.declared.board.BoardKey.{BoardKey}
use Rattle.inventory.proofs.ComingLemmas.{named_more, named_same}
use Rattle.inventory.proofs.LessLemmas.{take_at}
use Rattle.inventory.proofs.NamingKeysLemmas.{naming_index, naming_next, other_next}
use Rattle.inventory.proofs.coming.list_coming.Goals as goal

pub loop-key-preserved : goal.loop-key-preserved
loop-key-preserved g c =
    let all : List Config = c.args.shelf.now ++ option_to_list (option_map (λ config. config.now) c.args.plus) in
    let kept = c.args.keep.now.kept in
    let keys = c.args.keys.now in
    let i = c.loop-key.key-index in
    let key = c.key-item.result in
    let number = c.loop-key.number in
    let last = c.loop-key.last in
    let at = slice_get_read keys (length keys) i key refl c.loop-key-test.true c.key-item.is in
    let is : is_naming all key ≡ true = sym c.is_naming.ensures ∙ c.if-not-is_naming.false in
    let index : c.in_ok-index.index ≡ index_in (kept_with kept keys key.config) key.place =
    c.in_ok-index.ensures.index
    ∙ ap (λ (n : ℕ). unwrap_or (index_of (kept_of kept key.config) key.place) (n + 1)) c.last_of-last.ensures
    ∙ naming_index all keys i key at kept c.requires number last c.loop-key.invariant.counted is in
    let now : c.give_index.new.last ≡ cond (has_board (kept_of kept key.config) key.place) (last_of kept number last key.config)
    (last_of kept number last key.config + 1) =
    c.in_ok-index.ensures.last ∙ ap (λ (n : ℕ). cond (has_board (kept_of kept key.config) key.place) n (n + 1)) c.last_of-last.ensures in
    record {
      boards = subst (λ (front : List BoardKey). c.push.new.self.items ≡ naming all (board_list (kept_with kept keys) front)) (sym (take_at keys i key at))
          (named_more all (kept_with kept keys) (take i keys) key c.loop-key.boards.items c.loop-key.invariant.boards c.in_ok-index.index
          c.push.new.self.items is index c.in_ok-push.ensures.items);
      counted = naming_next all keys i key at kept c.requires number last c.loop-key.invariant.counted is c.give_index.new.last now;
    }

pub loop-key-preserved-then-not-is_naming : goal.loop-key-preserved-then-not-is_naming
loop-key-preserved-then-not-is_naming g c =
    let all : List Config = c.args.shelf.now ++ option_to_list (option_map (λ config. config.now) c.args.plus) in
    let kept = c.args.keep.now.kept in
    let keys = c.args.keys.now in
    let i = c.loop-key.key-index in
    let key = c.key-item.result in
    let at = slice_get_read keys (length keys) i key refl c.loop-key-test.true c.key-item.is in
    let is : is_naming all key ≡ false = sym c.is_naming.ensures ∙ c.if-not-is_naming.true in
    record {
      boards = subst (λ (front : List BoardKey). c.loop-key.boards.items ≡ naming all (board_list (kept_with kept keys) front)) (sym (take_at keys i key at))
          (named_same all (kept_with kept keys) (take i keys) key c.loop-key.boards.items c.loop-key.invariant.boards is);
      counted = other_next all keys i key at kept c.requires c.loop-key.number c.loop-key.last c.loop-key.invariant.counted is;
    }
