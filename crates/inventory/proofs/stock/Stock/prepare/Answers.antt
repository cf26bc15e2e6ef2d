use Rattle.std.proofs.Common.{◌≡◌, ◌∙◌, ◌++◌, List, Some, option_map, sym, ap, ap₂, subst, arith}
use Rattle.std.specs.Prelude.{filter_map, option_to_list}
use Rattle.std.specs.Option.{option_or}
use Rattle.cfg_json.specs.Configs.{Config}
use Rattle.cfg_json.specs.declared.item.Item.{Item}
use Rattle.cfg_json.specs.declared.item.ItemId.{ItemId}
use Rattle.inventory.specs.Bearers.{ids_in, ids_over, is_bearer, AreBorne, HaveOwnNames}
use Rattle.inventory.specs.Follows.{item_of, kept_with, Follows, Stock}
use Rattle.inventory.specs.Items.{entry_fields, items_less, live}
use Rattle.inventory.specs.Naming.{naming_items}
use Rattle.inventory.specs.Shown.{boards_after, items_of, AreShown}
use Rattle.inventory.specs.Stocks.{AreKept, AreNoted}
use Rattle.inventory.specs.declared.board.BoardKey.{BoardKey}
use Rattle.inventory.specs.declared.tag.Tag.{Tag}
use Rattle.inventory.specs.declared.shown.Shown.{Shown}
use Rattle.inventory.proofs.FollowsLemmas.{behind_is, behind_shown}
use Rattle.inventory.proofs.OwnNamesLemmas.{stay_own}
use Rattle.inventory.proofs.SoundLemmas.{follows_as, in_order, noted_as, noted_for, staged_borne, told_gone, told_new}
use Rattle.inventory.proofs.ValidLemmas.{told_valid}
use Rattle.inventory.proofs.stock.Stock.prepare.Goals as goal

pub invariant_of-self-2 : goal.invariant_of-self-2
invariant_of-self-2 g c =
    let boards = c.self.inside.boards.items in
    let tags = c.self.inside.tags.entries in
    let gone = c.in_ok-gone.gone.items in
    let new = c.in_ok-new.new.items in
    let notes = c.note_change.new.notes in
    let all : List Config = c.args.shelf.now ++ option_to_list (option_map (λ config. config.now) c.args.plus) in
    let kept_lists = c.args.keep.now.kept in
    let fields_at = entry_fields c.args.after.now.entries in
    let keys = c.args.difference.now.new_boards in
    let shown = c.self.invariant.shown in
    let new_shown : AreShown new = c.in_ok-new.ensures.shown in
    let items : items_of boards ≡ c.args.self.now.items = ap (λ (stock : Stock). stock.items) c.self.view_is in
    let coming : items_of new ≡ naming_items all (kept_with kept_lists keys) fields_at keys =
    c.in_ok-new.ensures.items ∙ ap (λ (keys : List BoardKey). naming_items all (kept_with kept_lists keys) fields_at keys) c.as_slice-keys.ensures in
    let gone_is : gone ≡ c.args.difference.now.gone_boards = c.in_ok-gone.ensures ∙ c.as_slice.ensures in
    let follows : Follows gone keys (items_of boards) (items_of new) c.requires.tie.0 =
    follows_as gone (items_of boards) (items_of new) gone_is items coming c.requires.tie.1 in
    let noted : AreNoted notes tags (noted_for gone boards new) =
    noted_as notes tags c.deref-2.ensures.value c.deref.ensures.value c.deref-3.ensures.value
    (c.in_ok-note_change.ensures (subst AreShown (sym c.deref.ensures.value) shown) (is_bearer (items_of boards)) c.self.invariant.kept) in
    let same : c.reserve-2.new.self.items ≡ boards = c.reserve-2.ensures.items in
    let same_tags : c.reserve.new.self.entries ≡ tags = c.reserve.ensures.entries in
    record {
      shown = subst AreShown (sym same) shown;
      kept = subst (λ (boards : List Shown). AreKept c.reserve.new.self.entries boards) (sym same)
          (subst (λ (tags : List (Tag × List ItemId)). AreKept tags boards) (sym same_tags) c.self.invariant.kept);
      ready = record {
        room = omega (arith, c.in_ok-reserve-2.ensures.ok);
        room_tags = omega (arith, c.in_ok-reserve.ensures.ok);
        shown = subst (λ (boards : List Shown). AreShown (boards_after gone new boards)) (sym same)
            (behind_shown gone keys boards new c.requires.tie.0 shown new_shown follows);
        borne = subst (λ (boards : List Shown).
            AreBorne notes.over.entries c.reserve.new.self.entries (is_bearer (items_of (boards_after gone new boards)))) (sym same)
            (subst (λ (tags : List (Tag × List ItemId)).
            AreBorne notes.over.entries tags (is_bearer (items_of (boards_after gone new boards)))) (sym same_tags)
            (staged_borne gone keys boards new c.requires.tie.0 shown new_shown follows notes tags c.self.invariant.kept noted));
        names = λ known. subst (λ (tags : List (Tag × List ItemId)). HaveOwnNames (ids_over notes.over.entries tags)) (sym same_tags)
            (stay_own c.self.inside.own_names notes.over.entries tags c.self.invariant.names (sym c.stay_own-own_names.ensures ∙ known));
      };
      names = λ known. subst (λ (tags : List (Tag × List ItemId)). HaveOwnNames (ids_in tags)) (sym same_tags) (c.self.invariant.names known);
    }

pub returns-clause-staged : goal.returns-clause-staged
returns-clause-staged g c next given =
    let boards = c.self.inside.boards.items in
    let tags = c.self.inside.tags.entries in
    let gone = c.in_ok-gone.gone.items in
    let new = c.in_ok-new.new.items in
    let notes = c.note_change.new.notes in
    let all : List Config = c.args.shelf.now ++ option_to_list (option_map (λ config. config.now) c.args.plus) in
    let kept_lists = c.args.keep.now.kept in
    let fields_at = entry_fields c.args.after.now.entries in
    let keys = c.args.difference.now.new_boards in
    let shown = c.self.invariant.shown in
    let new_shown : AreShown new = c.in_ok-new.ensures.shown in
    let items : items_of boards ≡ c.args.self.now.items = ap (λ (stock : Stock). stock.items) c.self.view_is in
    let coming : items_of new ≡ naming_items all (kept_with kept_lists keys) fields_at keys =
    c.in_ok-new.ensures.items ∙ ap (λ (keys : List BoardKey). naming_items all (kept_with kept_lists keys) fields_at keys) c.as_slice-keys.ensures in
    let gone_is : gone ≡ c.args.difference.now.gone_boards = c.in_ok-gone.ensures ∙ c.as_slice.ensures in
    let follows : Follows gone keys (items_of boards) (items_of new) next = follows_as gone (items_of boards) (items_of new) gone_is items coming given in
    ap (λ (boards : List Shown). Some (items_of (boards_after gone new boards))) c.reserve-2.ensures.items
    ∙ ap Some (behind_is gone keys boards new next shown new_shown follows)

pub returns-clause-gone : goal.returns-clause-gone
returns-clause-gone g c =
    let boards = c.self.inside.boards.items in
    let tags = c.self.inside.tags.entries in
    let gone = c.in_ok-gone.gone.items in
    let new = c.in_ok-new.new.items in
    let notes = c.note_change.new.notes in
    let all : List Config = c.args.shelf.now ++ option_to_list (option_map (λ config. config.now) c.args.plus) in
    let kept_lists = c.args.keep.now.kept in
    let fields_at = entry_fields c.args.after.now.entries in
    let keys = c.args.difference.now.new_boards in
    let shown = c.self.invariant.shown in
    let new_shown : AreShown new = c.in_ok-new.ensures.shown in
    let items : items_of boards ≡ c.args.self.now.items = ap (λ (stock : Stock). stock.items) c.self.view_is in
    let coming : items_of new ≡ naming_items all (kept_with kept_lists keys) fields_at keys =
    c.in_ok-new.ensures.items ∙ ap (λ (keys : List BoardKey). naming_items all (kept_with kept_lists keys) fields_at keys) c.as_slice-keys.ensures in
    let gone_is : gone ≡ c.args.difference.now.gone_boards = c.in_ok-gone.ensures ∙ c.as_slice.ensures in
    let follows : Follows gone keys (items_of boards) (items_of new) c.requires.tie.0 =
    follows_as gone (items_of boards) (items_of new) gone_is items coming c.requires.tie.1 in
    let noted : AreNoted notes tags (noted_for gone boards new) =
    noted_as notes tags c.deref-2.ensures.value c.deref.ensures.value c.deref-3.ensures.value
    (c.in_ok-note_change.ensures (subst AreShown (sym c.deref.ensures.value) shown) (is_bearer (items_of boards)) c.self.invariant.kept) in
    told_gone gone keys boards new c.requires.tie.0 shown new_shown follows notes tags c.self.invariant.kept noted c.in_ok-items.items.gone
    (λ ids lists.
    c.in_ok-items.ensures.gone (subst AreShown (sym c.deref-4.ensures.value) shown) (subst AreShown (sym c.deref-5.ensures.value) new_shown)
    (in_order gone keys boards new c.requires.tie.0 shown new_shown follows notes tags c.self.invariant.kept noted) ids lists
    ∙ ap₂ (λ (boards new : List Shown). filter_map (λ id. option_or (item_of (items_of boards) id) (item_of (items_of new) id)) ids)
    c.deref-4.ensures.value c.deref-5.ensures.value)
    ∙ ap (λ (boards : List Shown). items_less (live (items_of c.self.inside.boards.items)) (live (items_of (boards_after gone new boards))))
    (sym c.reserve-2.ensures.items)
    ∙ ap (λ (old : List Item). items_less (live old) (live (items_of (boards_after gone new c.reserve-2.new.self.items)))) items

pub returns-clause-new : goal.returns-clause-new
returns-clause-new g c =
    let boards = c.self.inside.boards.items in
    let tags = c.self.inside.tags.entries in
    let gone = c.in_ok-gone.gone.items in
    let new = c.in_ok-new.new.items in
    let notes = c.note_change.new.notes in
    let all : List Config = c.args.shelf.now ++ option_to_list (option_map (λ config. config.now) c.args.plus) in
    let kept_lists = c.args.keep.now.kept in
    let fields_at = entry_fields c.args.after.now.entries in
    let keys = c.args.difference.now.new_boards in
    let shown = c.self.invariant.shown in
    let new_shown : AreShown new = c.in_ok-new.ensures.shown in
    let items : items_of boards ≡ c.args.self.now.items = ap (λ (stock : Stock). stock.items) c.self.view_is in
    let coming : items_of new ≡ naming_items all (kept_with kept_lists keys) fields_at keys =
    c.in_ok-new.ensures.items ∙ ap (λ (keys : List BoardKey). naming_items all (kept_with kept_lists keys) fields_at keys) c.as_slice-keys.ensures in
    let gone_is : gone ≡ c.args.difference.now.gone_boards = c.in_ok-gone.ensures ∙ c.as_slice.ensures in
    let follows : Follows gone keys (items_of boards) (items_of new) c.requires.tie.0 =
    follows_as gone (items_of boards) (items_of new) gone_is items coming c.requires.tie.1 in
    let noted : AreNoted notes tags (noted_for gone boards new) =
    noted_as notes tags c.deref-2.ensures.value c.deref.ensures.value c.deref-3.ensures.value
    (c.in_ok-note_change.ensures (subst AreShown (sym c.deref.ensures.value) shown) (is_bearer (items_of boards)) c.self.invariant.kept) in
    told_new gone keys boards new c.requires.tie.0 shown new_shown follows notes tags c.self.invariant.kept noted c.in_ok-items.items.new
    (λ ids lists.
    c.in_ok-items.ensures.new (subst AreShown (sym c.deref-4.ensures.value) shown) (subst AreShown (sym c.deref-5.ensures.value) new_shown)
    (in_order gone keys boards new c.requires.tie.0 shown new_shown follows notes tags c.self.invariant.kept noted) ids lists
    ∙ ap₂ (λ (boards new : List Shown). filter_map (λ id. option_or (item_of (items_of new) id) (item_of (items_of boards) id)) ids)
    c.deref-4.ensures.value c.deref-5.ensures.value)
    ∙ ap (λ (boards : List Shown). items_less (live (items_of (boards_after gone new boards))) (live (items_of c.self.inside.boards.items)))
    (sym c.reserve-2.ensures.items)
    ∙ ap (λ (old : List Item). items_less (live (items_of (boards_after gone new c.reserve-2.new.self.items))) (live old)) items

pub returns-clause-valid : goal.returns-clause-valid
returns-clause-valid g c =
    told_valid (boards_after c.in_ok-gone.gone.items c.in_ok-new.new.items c.reserve-2.new.self.items) (live c.args.self.now.items)
    c.in_ok-items.items.new (invariant_of-self-2 g c).ready.shown (returns-clause-new g c)
