-- Boards with their items, which ascend.
use Rattle.std.proofs.Common.{◌≡◌, ◌∙◌, ℕ, zero, suc, Bool, true, false, not, cond, ◌||◌, ◌&&◌, List, [], ◌∷◌, ◌++◌, filter}
use Rattle.std.proofs.Common.{Option, Some, None, option_map, get_or, slice_get, refl, sym, ap, ap₂, subst}
use Rattle.std.specs.Prelude.{find}
use Rattle.std.specs.Option.{option_cmp, unwrap_or}
use Rattle.std.specs.Ordering.{is_eq, is_lt, nat_cmp, ordering_reverse, ordering_then}
use Rattle.std.specs.declared.cmp.Ordering.{Ordering}
use Rattle.std.specs.declared.cmp.Ordering.TheVariants.{Less, Equal, Greater}
use Rattle.std.specs.List.{AllByRecursion, insert, remove, list_any, prefix_len}
use Rattle.std.specs.List.Sorted.{IsStrictlySortedBy}
use Rattle.std.proofs.lemmas.List.Elements.{filter-append}
use Rattle.bmc_base.specs.Places.{place_cmp}
use Rattle.cfg_json.specs.declared.item.Item.{Item}
use Rattle.cfg_json.specs.declared.item.ItemId.{ItemId}
use Rattle.inventory.specs.Follows.{is_on, item_of, key_eq, on}
use Rattle.inventory.specs.Items.{id_eq}
use Rattle.inventory.specs.Orders.{exposer, id_cmp, key_cmp, AreById}
use Rattle.inventory.specs.Shown.{is_board, is_item_at, items_of, with_all, with_shown, without_keys, AreOrdered, AreShown, IsShown}
use Rattle.inventory.specs.declared.board.BoardKey.{BoardKey}
use Rattle.inventory.specs.declared.shown.Shown.{Shown}
use Rattle.inventory.proofs.AscendLemmas.{ascending_append}
use Rattle.inventory.proofs.BoardsLemmas.{board_cmp_eq}
use Rattle.inventory.proofs.IdsLemmas.{id_cmp_eq, id_same, id_total, key_total, number_cmp_eq, then_eq}
use Rattle.inventory.proofs.ListLemmas.{all_append, all_mapped, all_weaker, ascending_filter, filter_all, filter_none}
use Rattle.inventory.proofs.SortedLemmas.{found, inserted, is_there, removed, sorted_without, with_one}

abbrev pub key_of_board : Shown → BoardKey
key_of_board board = board.key

abbrev pub id_of : Item → ItemId
id_of item = item.id

-- ---- keys

pub key_cmp_eq : (key other : BoardKey) → is_eq (key_cmp key other) ≡ key_eq key other
key_cmp_eq key other =
    then_eq (nat_cmp key.config other.config) (option_cmp place_cmp key.place other.place) _ _ (number_cmp_eq key.config other.config)
    (board_cmp_eq key.place other.place)

both_ways : (one other : Bool) → (one ≡ true → other ≡ true) → (other ≡ true → one ≡ true) → one ≡ other
both_ways true true there back = refl
both_ways true false there back = sym (there refl)
both_ways false true there back = back refl
both_ways false false there back = refl

or_none : (b : Bool) → (b || false) ≡ b
or_none true = refl
or_none false = refl

less_differs : (key other : BoardKey) → key_cmp key other ≡ Less → key_eq key other ≡ false
less_differs key other less = sym (key_cmp_eq key other) ∙ ap is_eq less

-- ---- boards that come later

later_boards : (board : Shown) (boards : List Shown) → AreOrdered (board ∷ boards)
    → AllByRecursion (λ (other : Shown). key_cmp board.key other.key ≡ Less) boards
unfolding IsStrictlySortedBy
later_boards board boards order = all_mapped _ key_of_board boards order.0

rest_boards : (board : Shown) (boards : List Shown) → AreOrdered (board ∷ boards) → AreOrdered boards
unfolding IsStrictlySortedBy
rest_boards board boards order = order.1

pub rest_shown : (board : Shown) (boards : List Shown) → AreShown (board ∷ boards) → AreShown boards
rest_shown board boards shown = record { order = rest_boards board boards shown.order; each = shown.each.1 }

-- the items of boards are on them
all_items : (Fact : BoardKey → Type 0) (boards : List Shown) → AllByRecursion IsShown boards → AllByRecursion (λ (board : Shown). Fact board.key) boards
    → AllByRecursion (λ (item : Item). Fact (exposer item.id)) (items_of boards)
all_items Fact [] shown facts = tt
all_items Fact (board ∷ boards) shown facts =
    all_append _ board.items.items (items_of boards)
    (all_weaker _ _ (λ (item : Item) own. subst Fact (sym own) facts.0) board.items.items shown.0.own) (all_items Fact boards shown.1 facts.1)

-- the items of boards ascend
pub shown_by_id : (boards : List Shown) → AreShown boards → AreById (items_of boards)
unfolding IsStrictlySortedBy
shown_by_id [] shown = tt
shown_by_id (board ∷ boards) shown =
    ascending_append id_of id_cmp board.items.items (items_of boards) shown.each.0.order (shown_by_id boards (rest_shown board boards shown))
    (all_weaker _ _ earlier board.items.items shown.each.0.own)
  where
    later : AllByRecursion (λ (item : Item). key_cmp board.key (exposer item.id) ≡ Less) (items_of boards)
    later = all_items (λ key. key_cmp board.key key ≡ Less) boards shown.each.1 (later_boards board boards shown.order)

    earlier : (item : Item) → exposer item.id ≡ board.key → AllByRecursion (λ (other : Item). id_cmp item.id other.id ≡ Less) (items_of boards)
    earlier item own =
        all_weaker _ _ (λ (other : Item) less. ap (λ (order : Ordering). ordering_then order (nat_cmp item.id.expose other.id.expose))
        (ap (λ key. key_cmp key (exposer other.id)) own ∙ less)) (items_of boards) later

-- ---- the items of one board

turned : (order : Ordering) → is_eq (ordering_reverse order) ≡ is_eq order
turned Less = refl
turned Equal = refl
turned Greater = refl

pub key_swap : (key other : BoardKey) → key_eq key other ≡ key_eq other key
key_swap key other = sym (key_cmp_eq key other) ∙ ap is_eq (key_total.antisymm key other) ∙ turned (key_cmp other key) ∙ key_cmp_eq other key

equal_if : (order : Ordering) → is_eq order ≡ true → order ≡ Equal
equal_if Less is = absurd (cc)
equal_if Equal is = refl
equal_if Greater is = absurd (cc)

abbrev pub board_with : BoardKey → List Shown → Option Shown
board_with key boards = find (λ (board : Shown). is_eq (key_cmp key board.key)) boards

abbrev pub items_in : Option Shown → List Item
items_in board = unwrap_or (option_map (λ (board : Shown). board.items.items) board) []

append_none : {X : Type 0} (xs : List X) → xs ++ [] ≡ xs
append_none [] = refl
append_none {X} (x ∷ xs) = ap (λ (rest : List X). x ∷ rest) (append_none xs)

-- the items on the board with a key
pub on_board : (key : BoardKey) (boards : List Shown) → AreShown boards → on (key ∷ []) (items_of boards) ≡ items_in (board_with key boards)
on_board key [] shown = refl
on_board key (board ∷ boards) shown =
    filter-append (is_on (key ∷ [])) board.items.items (items_of boards)
    ∙ by (is_eq (key_cmp key board.key)) refl (on_board key boards (rest_shown board boards shown))
  where
    is_own : (is : Bool) → is_eq (key_cmp key board.key) ≡ is → AllByRecursion (λ (item : Item). is_on (key ∷ []) item ≡ is) board.items.items
    is_own is eq =
        all_weaker _ _ (λ (item : Item) own. or_none (key_eq (exposer item.id) key) ∙ ap (λ other. key_eq other key) own
        ∙ key_swap board.key key ∙ sym (key_cmp_eq key board.key) ∙ eq) board.items.items shown.each.0.own

    none_later : is_eq (key_cmp key board.key) ≡ true → on (key ∷ []) (items_of boards) ≡ []
    none_later same =
        filter_none (is_on (key ∷ [])) (items_of boards) (all_items (λ other. (key_eq other key || false) ≡ false) boards shown.each.1
        (all_weaker _ _ (λ (other : Shown) less. or_none (key_eq other.key key) ∙ key_swap other.key key
        ∙ less_differs key other.key (key_total.congr key board.key other.key (equal_if _ same) ∙ less)) boards (later_boards board boards shown.order)))

    by : (is : Bool) → is_eq (key_cmp key board.key) ≡ is → on (key ∷ []) (items_of boards) ≡ items_in (board_with key boards)
        → on (key ∷ []) board.items.items ++ on (key ∷ []) (items_of boards) ≡ items_in (cond is (Some board) (board_with key boards))
    by true is later =
        ap₂ (λ (front back : List Item). front ++ back) (filter_all (is_on (key ∷ [])) board.items.items (is_own true is)) (none_later is)
        ∙ append_none board.items.items
    by false is later = ap₂ (λ (front back : List Item). front ++ back) (filter_none (is_on (key ∷ [])) board.items.items (is_own false is)) later

board_there : (key : BoardKey) (found : Option Shown) → is_there key_of_board key_cmp key_total key found ≡ is_board key found
board_there key None = refl
board_there key (Some board) = key_cmp_eq key board.key

-- the board at the place of a key
pub board_at : (key : BoardKey) (boards : List Shown) (n : ℕ) → AreShown boards → n ≡ prefix_len (λ (board : Shown). is_lt (key_cmp board.key key)) boards
    → on (key ∷ []) (items_of boards) ≡ items_in (cond (is_board key (slice_get boards n)) (slice_get boards n) None)
board_at key boards n shown count =
    on_board key boards shown
    ∙ ap items_in (found key_of_board key_cmp key_total key boards shown.order
    ∙ ap (λ (n : ℕ). cond (is_there key_of_board key_cmp key_total key (slice_get boards n)) (slice_get boards n) None) (sym count)
    ∙ ap (λ (b : Bool). cond b (slice_get boards n) None) (board_there key (slice_get boards n)))

pub there_at : (key : BoardKey) (boards : List Shown) (n : ℕ) (board : Shown) → is_board key (slice_get boards n) ≡ true → board ≡ get_or boards n board
    → board.items.items ≡ items_in (slice_get boards n)
there_at key [] zero board there is = absurd (cc)
there_at key [] (suc n) board there is = absurd (cc)
there_at key (first ∷ boards) zero board there is = ap (λ (board : Shown). board.items.items) is
there_at key (first ∷ boards) (suc n) board there is = there_at key boards n board there is

-- ---- an item

pub find_kept : {X : Type 0} (test keep : X → Bool) → ((x : X) → test x ≡ true → keep x ≡ true) → (xs : List X) → find test (filter keep xs) ≡ find test xs
find_kept test keep passes [] = refl
find_kept {X} test keep passes (first ∷ xs) = by (keep first) (test first) (passes first) refl refl (find_kept test keep passes xs)
  where
    by : (kept is : Bool) → (test first ≡ true → keep first ≡ true) → keep first ≡ kept → test first ≡ is → find test (filter keep xs) ≡ find test xs
        → find test (cond kept (first ∷ filter keep xs) (filter keep xs)) ≡ cond is (Some first) (find test xs)
    by true is passes kept_is is_is later =
        ap₂ (λ (b : Bool) (more : Option X). cond b (Some first) more) is_is later
    by false true passes kept_is is_is later = let kept : keep first ≡ true = passes is_is in absurd (cc)
    by false false passes kept_is is_is later = later

item_there : (id : ItemId) (found : Option Item) → is_there id_of id_cmp id_total id found ≡ is_item_at id found
item_there id None = refl
item_there id (Some item) = id_cmp_eq id item.id

pub key_itself : (key : BoardKey) → key_eq key key ≡ true
key_itself key = sym (key_cmp_eq key key) ∙ same (key_cmp key key) (key_total.antisymm key key)
  where
    same : (order : Ordering) → order ≡ ordering_reverse order → is_eq order ≡ true
    same Less is = absurd (cc)
    same Equal is = refl
    same Greater is = absurd (cc)

pub item_found : (id : ItemId) (boards : List Shown) (n : ℕ) → AreShown boards
    → n ≡ prefix_len (λ (item : Item). is_lt (id_cmp item.id id)) (on (exposer id ∷ []) (items_of boards))
    → cond (is_item_at id (slice_get (on (exposer id ∷ []) (items_of boards)) n)) (slice_get (on (exposer id ∷ []) (items_of boards)) n) None
    ≡ item_of (items_of boards) id
item_found id boards n shown count =
    let mine : List Item = on (exposer id ∷ []) (items_of boards) in
    let order : AreById mine = ascending_filter id_of id_cmp (is_on (exposer id ∷ [])) (items_of boards) (shown_by_id boards shown) in
    ap (λ (b : Bool). cond b (slice_get mine n) None) (sym (item_there id (slice_get mine n)))
    ∙ ap (λ (n : ℕ). cond (is_there id_of id_cmp id_total id (slice_get mine n)) (slice_get mine n) None) count
    ∙ sym (found id_of id_cmp id_total id mine order)
    ∙ (λ i. find (λ (item : Item). id_cmp_eq id item.id i) mine)
    ∙ find_kept (λ (item : Item). id_eq id item.id) (is_on (exposer id ∷ []))
    (λ (item : Item) same. ap (λ (other : ItemId). key_eq (exposer other) (exposer id) || false) (sym (id_same id item.id same))
    ∙ or_none (key_eq (exposer id) (exposer id)) ∙ key_itself (exposer id)) (items_of boards)

pub by_id : (key : BoardKey) (boards : List Shown) → AreShown boards → AreById (on (key ∷ []) (items_of boards))
by_id key boards shown = ascending_filter id_of id_cmp (is_on (key ∷ [])) (items_of boards) (shown_by_id boards shown)

-- ---- boards that go

pub board_removed : (key : BoardKey) (boards : List Shown) (n : ℕ) → AreOrdered boards
    → n ≡ prefix_len (λ (board : Shown). is_lt (key_cmp board.key key)) boards
    → cond (is_board key (slice_get boards n)) (remove boards n) boards ≡ without_keys (key ∷ []) boards
board_removed key boards n order count =
    ap (λ (b : Bool). cond b (remove boards n) boards) (sym (board_there key (slice_get boards n)))
    ∙ ap (λ (n : ℕ). cond (is_there key_of_board key_cmp key_total key (slice_get boards n)) (remove boards n) boards) count
    ∙ removed key_of_board key_cmp key_total key boards order
    ∙ (λ i. filter (λ (board : Shown). not ((key_cmp_eq key board.key ∙ key_swap key board.key ∙ sym (or_none (key_eq board.key key))) i)) boards)

pub without_none : (boards : List Shown) → without_keys [] boards ≡ boards
without_none [] = refl
without_none (board ∷ boards) = ap (λ (boards : List Shown). board ∷ boards) (without_none boards)

filter_both : {X : Type 0} (one other both : X → Bool) → ((x : X) → both x ≡ (other x && one x)) → (xs : List X) → filter one (filter other xs) ≡ filter both xs
filter_both one other both is [] = refl
filter_both {X} one other both is (first ∷ xs) = by (other first) (one first) refl (is first) (filter_both one other both is xs)
  where
    by : (passes next : Bool) → one first ≡ next → both first ≡ (passes && one first) → filter one (filter other xs) ≡ filter both xs
        → filter one (cond passes (first ∷ filter other xs) (filter other xs)) ≡ cond (both first) (first ∷ filter both xs) (filter both xs)
    by true next next_is is later = ap₂ (λ (b : Bool) (xs : List X). cond b (first ∷ xs) xs) (sym is) later
    by false next next_is is later = later ∙ ap (λ (b : Bool). cond b (first ∷ filter both xs) (filter both xs)) (sym is)

pub without_more : (keys : List BoardKey) (key : BoardKey) (boards : List Shown)
    → without_keys (key ∷ []) (without_keys keys boards) ≡ without_keys (keys ++ key ∷ []) boards
without_more keys key boards =
    filter_both (λ (board : Shown). not (list_any (key_eq board.key) (key ∷ []))) (λ (board : Shown). not (list_any (key_eq board.key) keys))
    (λ (board : Shown). not (list_any (key_eq board.key) (keys ++ key ∷ []))) (λ board. both board keys) boards
  where
    both : (board : Shown) (keys : List BoardKey)
        → not (list_any (key_eq board.key) (keys ++ key ∷ [])) ≡ (not (list_any (key_eq board.key) keys) && not (list_any (key_eq board.key) (key ∷ [])))
    both board [] = refl
    both board (first ∷ keys) = by (key_eq board.key first) (both board keys)
      where
        by : (same : Bool)
            → not (list_any (key_eq board.key) (keys ++ key ∷ [])) ≡ (not (list_any (key_eq board.key) keys) && not (list_any (key_eq board.key) (key ∷ [])))
            → not (same || list_any (key_eq board.key) (keys ++ key ∷ []))
            ≡ (not (same || list_any (key_eq board.key) keys) && not (list_any (key_eq board.key) (key ∷ [])))
        by true later = refl
        by false later = later

pub ordered_without : (keys : List BoardKey) (boards : List Shown) → AreOrdered boards → AreOrdered (without_keys keys boards)
ordered_without keys boards order = ascending_filter key_of_board key_cmp (λ (board : Shown). not (list_any (key_eq board.key) keys)) boards order

-- ---- boards that come

pub with_shown_is : (board : Shown) (boards : List Shown) → with_one key_of_board key_cmp key_total board boards ≡ with_shown board boards
with_shown_is board [] = refl
with_shown_is board (first ∷ boards) =
    ap (λ (later : List Shown). cond (is_lt (key_cmp first.key board.key)) (first ∷ later) (board ∷ first ∷ boards)) (with_shown_is board boards)

pub board_inserted : (board : Shown) (boards : List Shown) (n : ℕ) → n ≡ prefix_len (λ (other : Shown). is_lt (key_cmp other.key board.key)) boards
    → insert boards n board ≡ with_shown board boards
board_inserted board boards n count =
    ap (λ (n : ℕ). insert boards n board) count ∙ inserted key_of_board key_cmp key_total board boards ∙ with_shown_is board boards

pub with_last : (more : List Shown) (board : Shown) (boards : List Shown) → with_all (more ++ board ∷ []) boards ≡ with_all more (with_shown board boards)
with_last [] board boards = refl
with_last (first ∷ more) board boards = ap (with_shown first) (with_last more board boards)

pub ordered_before : (more boards : List Shown) → AreOrdered (with_all more boards) → AreOrdered boards
ordered_before [] boards order = order
ordered_before (board ∷ more) boards order =
    ordered_before more boards (sorted_without key_of_board key_cmp key_total board (with_all more boards)
    (subst AreOrdered (sym (with_shown_is board (with_all more boards))) order))
