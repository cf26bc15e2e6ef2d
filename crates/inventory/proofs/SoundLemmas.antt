-- What holds inside a stock.
use Rattle.std.proofs.Common.{◌≡◌, ◌∙◌, ◌||◌, ◌&&◌, not, Bool, true, List, [], map, None, refl, sym, ap, subst}
use Rattle.std.specs.Prelude.{filter_map}
use Rattle.std.specs.Option.{option_or}
use Rattle.std.specs.Global.{Vec}
use Rattle.std.specs.List.Sorted.{IsStrictlySortedBy}
use Rattle.indexmap.specs.IndexMap.{IndexMap}
use Rattle.cfg_json.specs.declared.item.Item.{Item}
use Rattle.cfg_json.specs.declared.item.ItemId.{ItemId}
use Rattle.inventory.specs.Bearers.{ids_in, ids_over, is_bearer, leads, touched, AreBorne, Lists}
use Rattle.inventory.specs.Follows.{item_of, on, Follows}
use Rattle.inventory.specs.Items.{items_less, live}
use Rattle.inventory.specs.Orders.{AreById}
use Rattle.inventory.specs.Shown.{boards_after, items_of, AreShown}
use Rattle.inventory.specs.declared.board.BoardKey.{BoardKey}
use Rattle.inventory.specs.Leads.{AreInOrder}
use Rattle.inventory.specs.Stocks.{AreKept, AreNoted, IsSound}
use Rattle.inventory.specs.declared.tag.Tag.{Tag}
use Rattle.inventory.specs.declared.shown.Shown.{Shown}
use Rattle.inventory.specs.declared.tags.Notes.{Notes}
use Rattle.inventory.proofs.FollowsLemmas.{behind_is}
use Rattle.inventory.proofs.ShownLemmas.{id_of, shown_by_id}
use Rattle.inventory.proofs.NotesLemmas.{noted_alike}
use Rattle.inventory.proofs.OwnNamesLemmas.{no_tags_own}
use Rattle.inventory.proofs.StepLemmas.{borne_next, gone_are, gone_lists, new_are, new_lists}

no_shown : AreShown []
unfolding IsStrictlySortedBy
no_shown = record { order = tt; each = tt }

no_kept : AreKept [] []
unfolding IsStrictlySortedBy
no_kept tag = record { order = tt; each = λ id. refl }

-- there are no items
pub none_sound : {S : Type 0} (boards : Vec Shown) (tags : IndexMap Tag (List ItemId) S) (over : List (Tag × List ItemId)) → boards.items ≡ []
    → tags.entries ≡ [] → IsSound boards tags over None true
none_sound boards tags over no_boards no_tags = record {
  shown = subst AreShown (sym no_boards) no_shown;
  kept = subst (λ (boards : List Shown). AreKept tags.entries boards) (sym no_boards)
      (subst (λ (entries : List (Tag × List ItemId)). AreKept entries []) (sym no_tags) no_kept);
  ready = tt;
  names = λ _. no_tags_own tags.entries no_tags;
}

-- ---- what is staged

pub follows_as : {gone keys : List BoardKey} {old coming next : List Item} (gone_now : List BoardKey) (old_now coming_now : List Item) → gone_now ≡ gone
    → old_now ≡ old → coming_now ≡ coming → Follows gone keys old coming next → Follows gone_now keys old_now coming_now next
follows_as {gone} {keys} {old} {coming} {next} gone_now old_now coming_now gone_is old_is coming_is follows =
    subst (λ (gone : List BoardKey). Follows gone keys old_now coming_now next) (sym gone_is)
    (subst (λ (old : List Item). Follows gone keys old coming_now next) (sym old_is)
    (subst (λ (coming : List Item). Follows gone keys old coming next) (sym coming_is) follows))

-- what is noted where boards go and come
abbrev pub noted_for : List BoardKey → List Shown → List Shown → Tag → ItemId → Bool
noted_for gone boards new tag id =
    (is_bearer (items_of boards) tag id && not (is_bearer (on gone (items_of boards)) tag id)) || is_bearer (items_of new) tag id

pub noted_as : {gone gone_now : List BoardKey} {boards boards_now new new_now : List Shown} (notes : Notes) (tags : List (Tag × List ItemId))
    → gone_now ≡ gone → boards_now ≡ boards → new_now ≡ new
    → AreNoted notes tags (λ tag id. (is_bearer (items_of boards) tag id && not (is_bearer (on gone_now (items_of boards_now)) tag id))
    || is_bearer (items_of new_now) tag id)
    → AreNoted notes tags (noted_for gone boards new)
noted_as {boards = boards} notes tags gone_is boards_is new_is noted =
    noted_alike notes tags _ _ noted (λ tag id i.
    (is_bearer (items_of boards) tag id && not (is_bearer (on (gone_is i) (items_of (boards_is i))) tag id)) || is_bearer (items_of (new_is i)) tag id)

module _ (gone keys : List BoardKey) (boards new : List Shown) (next : List Item) (shown : AreShown boards) (new_shown : AreShown new)
    (follows : Follows gone keys (items_of boards) (items_of new) next) (notes : Notes) (tags : List (Tag × List ItemId)) (kept : AreKept tags boards)
    (noted : AreNoted notes tags (noted_for gone boards new)) where
  abbrev over : List (Tag × List ItemId)
  over = notes.over.entries

  pub in_order : AreInOrder notes tags
  in_order = record { kept = λ tag. (kept tag).order; noted = λ tag. (noted.borne tag).order; firsts = noted.firsts }

  old_order : AreById (items_of boards)
  old_order = shown_by_id boards shown

  borne : AreBorne over tags (is_bearer next)
  borne = borne_next gone keys (items_of boards) (items_of new) next old_order follows over tags noted.borne

  pub staged_borne : AreBorne over tags (is_bearer (items_of (boards_after gone new boards)))
  staged_borne =
      subst (λ (items : List Item). AreBorne over tags (is_bearer items)) (sym (behind_is gone keys boards new next shown new_shown follows)) borne

  pub told_gone : (told : List Item)
      → ((ids : List ItemId) → Lists ids (leads (ids_in tags) (ids_over over tags) (touched (map (λ (entry : Tag × List ItemId). entry.0) over)))
      → told ≡ filter_map (λ id. option_or (item_of (items_of boards) id) (item_of (items_of new) id)) ids)
      → told ≡ items_less (live (items_of boards)) (live (items_of (boards_after gone new boards)))
  told_gone told tells =
      tells (map id_of (items_less (live (items_of boards)) (live next)))
      (gone_lists gone keys (items_of boards) (items_of new) next old_order follows over tags kept borne)
      ∙ gone_are gone keys (items_of boards) (items_of new) next old_order follows
      ∙ ap (λ (next : List Item). items_less (live (items_of boards)) (live next)) (sym (behind_is gone keys boards new next shown new_shown follows))

  pub told_new : (told : List Item)
      → ((ids : List ItemId) → Lists ids (leads (ids_over over tags) (ids_in tags) (touched (map (λ (entry : Tag × List ItemId). entry.0) over)))
      → told ≡ filter_map (λ id. option_or (item_of (items_of new) id) (item_of (items_of boards) id)) ids)
      → told ≡ items_less (live (items_of (boards_after gone new boards))) (live (items_of boards))
  told_new told tells =
      tells (map id_of (items_less (live next) (live (items_of boards))))
      (new_lists gone keys (items_of boards) (items_of new) next old_order follows over tags kept borne)
      ∙ new_are gone keys (items_of boards) (items_of new) next old_order follows
      ∙ ap (λ (next : List Item). items_less (live next) (live (items_of boards))) (sym (behind_is gone keys boards new next shown new_shown follows))
