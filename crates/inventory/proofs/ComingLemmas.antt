-- The boards that come.
use Rattle.std.proofs.Common.{◌≡◌, ◌∙◌, ℕ, zero, suc, ◌+◌, ◌<◌, ◌≤◌, Bool, true, false, cond, List, [], ◌∷◌, ◌++◌, length, map, filter, take, drop}
use Rattle.std.proofs.Common.{Option, Some, None, inl, inr, get_or, refl, sym, ap, ap₂, subst, arith}
use mathlib.Core.List.{map-map, map-id}
use Rattle.std.specs.Prelude.{nat_eq, ◌==◌}
use Rattle.std.specs.Option.{option_cmp, option_eq, unwrap_or}
use Rattle.std.specs.Ordering.{nat_cmp, ordering_then}
use Rattle.std.specs.declared.cmp.Ordering.{Ordering}
use Rattle.std.specs.declared.cmp.Ordering.TheVariants.{Less, Equal, Greater}
use Rattle.std.specs.List.{All, AllByRecursion, IsDistinct}
use Rattle.std.specs.List.Sorted.{IsStrictlySortedBy}
use Rattle.std.proofs.lemmas.Grind.{flat_map-append}
use Rattle.std.proofs.lemmas.List.{append-nil, map-append, take_more}
use Rattle.std.proofs.lemmas.List.Elements.{filter-append, All-filter, All-same}
use Rattle.bmc_base.specs.Places.{Place, place_cmp, place_eq}
use Rattle.fru_area.specs.declared.field.Field.{Field}
use Rattle.cfg_json.specs.Configs.{Config, IsValidExpose}
use Rattle.cfg_json.specs.declared.item.Item.{Item}
use Rattle.inventory.specs.Items.{board_fields, board_items, exposes_of, IsValidItem}
use Rattle.inventory.specs.Boards.{has_board}
use Rattle.inventory.specs.Differences.{places_of}
use Rattle.inventory.specs.Follows.{kept_with, last_of, AreKeysAscending}
use Rattle.inventory.specs.Indexes.{index_in, index_of, kept_of, with_boards}
use Rattle.inventory.specs.Lists.{board_list, board_of}
use Rattle.inventory.specs.Naming.{all_named, is_naming, named_items, naming}
use Rattle.inventory.specs.Orders.{exposer, id_cmp, key_cmp, AreById, AreByKey}
use Rattle.inventory.specs.Shown.{items_of, AreShown, IsShown, ShowsMore}
use Rattle.inventory.specs.declared.board.Board.{Board}
use Rattle.inventory.specs.declared.board.BoardKey.{BoardKey}
use Rattle.inventory.specs.declared.shown.Shown.{Shown}
use Rattle.std.proofs.lemmas.Bool.{eqb-true}
use Rattle.std.proofs.lemmas.Bool.Decides.{nat_tests}
use Rattle.std.proofs.lemmas.Cmp.{nat_cmp_total, tied_itself}
use Rattle.std.proofs.lemmas.Map.Keys.{IsDistinct-from_sorted}
use Rattle.inventory.proofs.BoardsLemmas.{board_cmp_eq}
use Rattle.inventory.proofs.ListingLemmas.{count_more, index_given}
use Rattle.inventory.proofs.IdsLemmas.{items_ascend_from, items_from}
use Rattle.inventory.proofs.ListLemmas.{ascending_filter, all_append, all_filter, all_weaker}
use Rattle.inventory.proofs.NamingLemmas.{is_kin, named_are_kin}
use Rattle.inventory.proofs.ShownLemmas.{key_of_board}
use Rattle.inventory.proofs.ValidLemmas.{rendered_valid}

pub drop_all : {X : Type 0} (n : ℕ) (xs : List X) → length xs ≤ n → drop n xs ≡ []
drop_all zero [] past = refl
drop_all (suc n) [] past = refl
drop_all zero (x ∷ xs) past = absurd (omega (arith, past))
drop_all (suc n) (x ∷ xs) past = drop_all n xs (omega (arith, past))

-- ---- a board with its items

module _ (configs : List Config) (fields_at : Place → Option (List Field)) where
  pub is_shown : (board : Board) (shown : Shown) → shown.key ≡ board.key → shown.items.items ≡ named_items configs fields_at board
      → 0 < length shown.items.items → All IsValidExpose (exposes_of configs board.key.config) → IsShown shown
  is_shown board shown key_is is some valid = record {
    own = subst (λ (key : BoardKey). AllByRecursion (λ (item : Item). exposer item.id ≡ key) shown.items.items) (sym key_is)
        (subst (AllByRecursion (λ (item : Item). exposer item.id ≡ board.key)) (sym all)
        (all_filter _ is_kin _ (all_weaker _ _ (λ (item : Item) is. is.0) _ (items_from fields_at board 0 (exposes_of configs board.key.config)))));
    order = subst AreById (sym all)
        (ascending_filter (λ (item : Item). item.id) id_cmp is_kin _ (items_ascend_from fields_at board 0 (exposes_of configs board.key.config)));
    some = some;
    valid = All-same IsValidItem shown.items.items (filter is_kin (board_items configs fields_at board)) all
        (All-filter is_kin IsValidItem _ (rendered_valid board (board_fields fields_at board) 0 (exposes_of configs board.key.config) valid));
  }
    where
      all : shown.items.items ≡ filter is_kin (board_items configs fields_at board)
      all = is ∙ named_are_kin board (board_fields fields_at board) 0 (exposes_of configs board.key.config)

  abbrev keys_of_boards : List Board → List BoardKey
  keys_of_boards boards = map (λ (board : Board). board.key) boards

  abbrev keys_of_shown : List Shown → List BoardKey
  keys_of_shown shown = map key_of_board shown

  -- what is shown of the first boards, where the others follow
  pub record IsListed (front back : List Board) (list : List Shown) : Type 0 where
    pub items_are : items_of list ≡ all_named configs fields_at front
    pub each : AllByRecursion IsShown list
    pub order : AreByKey (front ++ back) → IsStrictlySortedBy key_cmp (keys_of_shown list ++ keys_of_boards back)

  pub listed_none : (boards : List Board) (list : List Shown) → list ≡ [] → IsListed [] boards list
  listed_none boards list none = subst (IsListed [] boards) (sym none) (record { items_are = refl; each = tt; order = λ order. order })

  items_more : (front : List Board) (board : Board)
      → all_named configs fields_at (front ++ board ∷ []) ≡ all_named configs fields_at front ++ named_items configs fields_at board
  items_more front board =
      flat_map-append (named_items configs fields_at) front (board ∷ [])
      ∙ ap (λ (more : List Item). all_named configs fields_at front ++ more) (append-nil (named_items configs fields_at board))

  skip_sorted : (front : List BoardKey) (key : BoardKey) (back : List BoardKey) → IsStrictlySortedBy key_cmp (front ++ key ∷ back)
      → IsStrictlySortedBy key_cmp (front ++ back)
  unfolding IsStrictlySortedBy
  skip_sorted [] key back order = order.1
  skip_sorted (first ∷ front) key back order = (skip_all front order.0, skip_sorted front key back order.1)
    where
      skip_all : (front : List BoardKey) → AllByRecursion (λ (other : BoardKey). key_cmp first other ≡ Less) (front ++ key ∷ back)
          → AllByRecursion (λ (other : BoardKey). key_cmp first other ≡ Less) (front ++ back)
      skip_all [] facts = facts.1
      skip_all (other ∷ front) facts = (facts.0, skip_all front facts.1)

  append_all : {X : Type 0} (one two three : List X) → (one ++ two) ++ three ≡ one ++ (two ++ three)
  append_all [] two three = refl
  append_all {X} (x ∷ one) two three = ap (λ (rest : List X). x ∷ rest) (append_all one two three)

  pub listed_more : (front back : List Board) (board : Board) (list more : List Shown) → IsListed front (board ∷ back) list
      → ShowsMore list board.key (named_items configs fields_at board) more → IsListed (front ++ board ∷ []) back more
  listed_more front back board list more listed (inl none) = subst (IsListed (front ++ board ∷ []) back) (sym none.1) (record {
    items_are =
        listed.items_are ∙ sym (items_more front board ∙ ap (λ (last : List Item). all_named configs fields_at front ++ last) none.0
        ∙ append-nil (all_named configs fields_at front));
    each = listed.each;
    order = λ order. skip_sorted (keys_of_shown list) board.key (keys_of_boards back)
        (listed.order (subst AreByKey (append_all front (board ∷ []) back) order));
  })
  listed_more front back board list more listed (inr (shown, key, its_items, is, more_is)) = subst (IsListed (front ++ board ∷ []) back) (sym more_is) (record {
    items_are =
        flat_map-append (λ (board : Shown). board.items.items) list (shown ∷ [])
        ∙ ap₂ (λ (front back : List Item). front ++ back) listed.items_are (append-nil shown.items.items ∙ its_items) ∙ sym (items_more front board);
    each = all_append IsShown list (shown ∷ []) listed.each (is, tt);
    order = λ order.
        subst (IsStrictlySortedBy key_cmp)
        (sym (ap (λ (keys : List BoardKey). keys ++ keys_of_boards back) (map-append key_of_board list (shown ∷ []))
        ∙ append_all (keys_of_shown list) (shown.key ∷ []) (keys_of_boards back)
        ∙ ap (λ (key : BoardKey). keys_of_shown list ++ key ∷ keys_of_boards back) key))
        (listed.order (subst AreByKey (append_all front (board ∷ []) back) order));
  })

  pub listed_all : (boards : List Board) (list : List Shown) → IsListed boards [] list → AreByKey boards → AreShown list
  listed_all boards list listed order = record {
    order = subst (IsStrictlySortedBy key_cmp) (append-nil (keys_of_shown list)) (listed.order (subst AreByKey (sym (append-nil boards)) order));
    each = listed.each;
  }

-- ---- the indexes of boards that come

-- the places of keys of one configuration
abbrev of_config : ℕ → BoardKey → Bool
of_config number key = nat_eq key.config number

places_both : (number : ℕ) (front back : List BoardKey) → places_of number (front ++ back) ≡ places_of number front ++ places_of number back
places_both number front back =
    ap (map (λ (key : BoardKey). key.place)) (filter-append (of_config number) front back)
    ∙ map-append (λ (key : BoardKey). key.place) (filter (of_config number) front) (filter (of_config number) back)

config_self : (number : ℕ) → nat_eq number number ≡ true
config_self number = grind (arith, nat_tests)

config_differs : (one other : ℕ) → one < other → nat_eq one other ≡ false
config_differs one other less = grind (arith, nat_tests, less)

places_mine : (key : BoardKey) (back : List BoardKey) → places_of key.config (key ∷ back) ≡ key.place ∷ places_of key.config back
places_mine key back =
    ap (λ (is : Bool). map (λ (key : BoardKey). key.place) (cond is (key ∷ filter (of_config key.config) back) (filter (of_config key.config) back)))
    (config_self key.config)

-- keys of smaller configurations have no places of this one
places_less : (number : ℕ) (keys : List BoardKey) → AllByRecursion (λ (key : BoardKey). key.config < number) keys → places_of number keys ≡ []
places_less number [] less = refl
places_less number (key ∷ keys) less =
    ap (λ (is : Bool). map (λ (key : BoardKey). key.place) (cond is (key ∷ filter (of_config number) keys) (filter (of_config number) keys)))
    (config_differs key.config number less.0)
    ∙ places_less number keys less.1

-- places of one configuration ascend where the keys do
config_le : (key other : BoardKey) → key_cmp key other ≡ Less → key.config ≤ other.config
config_le key other less = by (nat_cmp key.config other.config) refl less
  where
    by : (order : Ordering) → nat_cmp key.config other.config ≡ order → ordering_then order (option_cmp place_cmp key.place other.place) ≡ Less
        → key.config ≤ other.config
    by Less is less = grind (arith, nat_tests, is)
    by Equal is less = grind (arith, nat_tests, is)
    by Greater is less = absurd (cc)

place_less : (key other : BoardKey) → key_cmp key other ≡ Less → key.config ≡ other.config → option_cmp place_cmp key.place other.place ≡ Less
place_less key other less same =
    sym (ap (λ (order : Ordering). ordering_then order (option_cmp place_cmp key.place other.place))
    (ap (nat_cmp key.config) (sym same) ∙ tied_itself nat_cmp_total key.config)) ∙ less

is_config : (key : BoardKey) (number : ℕ) → nat_eq key.config number ≡ true → key.config ≡ number
is_config key number same = eqb-true key.config number same

places_ascend : (number : ℕ) (keys : List BoardKey) → AreKeysAscending keys → IsStrictlySortedBy (option_cmp place_cmp) (places_of number keys)
unfolding IsStrictlySortedBy
places_ascend number [] order = tt
places_ascend number (key ∷ keys) order = by (nat_eq key.config number) refl (places_ascend number keys order.1)
  where
    later : key.config ≡ number → (keys : List BoardKey) → AllByRecursion (λ (other : BoardKey). key_cmp key other ≡ Less) keys
        → AllByRecursion (λ (place : Option Place). option_cmp place_cmp key.place place ≡ Less) (places_of number keys)
    later mine [] less = tt
    later mine (other ∷ keys) less = pick (nat_eq other.config number) refl (later mine keys less.1)
      where
        pick : (is : Bool) → nat_eq other.config number ≡ is
            → AllByRecursion (λ (place : Option Place). option_cmp place_cmp key.place place ≡ Less) (places_of number keys)
            → AllByRecursion (λ (place : Option Place). option_cmp place_cmp key.place place ≡ Less)
            (map (λ (key : BoardKey). key.place) (cond is (other ∷ filter (of_config number) keys) (filter (of_config number) keys)))
        pick true is rest = (place_less key other less.0 (mine ∙ sym (is_config other number is)), rest)
        pick false is rest = rest

    by : (is : Bool) → nat_eq key.config number ≡ is → IsStrictlySortedBy (option_cmp place_cmp) (places_of number keys)
        → IsStrictlySortedBy (option_cmp place_cmp)
        (map (λ (key : BoardKey). key.place) (cond is (key ∷ filter (of_config number) keys) (filter (of_config number) keys)))
    by true is rest = (later (is_config key number is) keys order.0, rest)
    by false is rest = rest

places_differ : (number : ℕ) (keys : List BoardKey) → AreKeysAscending keys → IsDistinct (option_eq place_eq) (places_of number keys)
places_differ number keys order =
    subst (λ (same : Option Place → Option Place → Bool). IsDistinct same (places_of number keys)) (λ i place other. board_cmp_eq place other i)
    (IsDistinct-from_sorted (option_cmp place_cmp) (places_of number keys) (places_ascend number keys order))

-- keys that ascend have configurations that do not descend
earlier : (front : List BoardKey) (key : BoardKey) (back : List BoardKey) → AreKeysAscending (front ++ key ∷ back)
    → AllByRecursion (λ (each : BoardKey). each.config ≤ key.config) front
unfolding IsStrictlySortedBy
earlier [] key back order = tt
earlier (first ∷ front) key back order = (config_le first key (middle front order.0), earlier front key back order.1)
  where
    middle : (front : List BoardKey) → AllByRecursion (λ (other : BoardKey). key_cmp first other ≡ Less) (front ++ key ∷ back) → key_cmp first key ≡ Less
    middle [] facts = facts.0
    middle (other ∷ front) facts = middle front facts.1

later : (front : List BoardKey) (key : BoardKey) (back : List BoardKey) → AreKeysAscending (front ++ key ∷ back)
    → AllByRecursion (λ (each : BoardKey). key.config ≤ each.config) back
unfolding IsStrictlySortedBy
later [] key back order = all_weaker _ _ (λ (other : BoardKey) less. config_le key other less) back order.0
later (first ∷ front) key back order = later front key back order.1

-- how far the boards that come are counted
pub record IsCounted (kept : List (List (Option Place))) (front back : List BoardKey) (number : Option ℕ) (last : ℕ) : Type 0 where
  pub counted : (n : ℕ) → number ≡ Some n → last ≡ length (with_boards (kept_of kept n) (places_of n front))
  pub past : (n : ℕ) → number ≡ Some n → AllByRecursion (λ (key : BoardKey). key.config ≤ n) front
  pub ahead : (n : ℕ) → number ≡ Some n → AllByRecursion (λ (key : BoardKey). n ≤ key.config) back
  pub none : number ≡ None → front ≡ []

module _ (kept : List (List (Option Place))) (front back : List BoardKey) (key : BoardKey) (number : Option ℕ) (last : ℕ)
    (order : AreKeysAscending (front ++ key ∷ back)) (counted : IsCounted kept front (key ∷ back) number last) where
  n : ℕ
  n = key.config

  abbrev before : List (Option Place)
  before = places_of key.config front

  -- so many of its configuration come before it
  last_is : last_of kept number last key.config ≡ length (with_boards (kept_of kept key.config) (places_of key.config front))
  last_is = by number refl
    where
      none_before : AllByRecursion (λ (each : BoardKey). each.config < key.config) front
          → length (kept_of kept key.config) ≡ length (with_boards (kept_of kept key.config) (places_of key.config front))
      none_before less = sym (ap (λ (places : List (Option Place)). length (with_boards (kept_of kept key.config) places)) (places_less key.config front less))

      same : (m : ℕ) → number ≡ Some m → (is : Bool) → (m == key.config) ≡ is
          → cond is last (length (kept_of kept key.config)) ≡ length (with_boards (kept_of kept key.config) (places_of key.config front))
      same m is true eq =
          counted.counted m is ∙ ap (λ (n : ℕ). length (with_boards (kept_of kept n) (places_of n front))) (eqb-true m key.config eq)
      same m is false eq =
          let least : m ≤ key.config = (counted.ahead m is).0 in
          let less : m < key.config = grind (arith, nat_tests, least, eq) in
          none_before (all_weaker _ _ (λ (each : BoardKey) most. omega (arith, most, less)) front (counted.past m is))

      by : (its : Option ℕ) → number ≡ its
          → last_of kept its last key.config ≡ length (with_boards (kept_of kept key.config) (places_of key.config front))
      by None is = none_before (subst (AllByRecursion (λ (each : BoardKey). each.config < key.config)) (sym (counted.none is)) tt)
      by (Some m) is = same m is (m == key.config) refl

  abbrev all_places : List (Option Place)
  all_places = places_of key.config (front ++ key ∷ back)

  places_are : places_of key.config (front ++ key ∷ back) ≡ places_of key.config front ++ key.place ∷ places_of key.config back
  places_are = places_both key.config front (key ∷ back) ∙ ap (λ (rest : List (Option Place)). places_of key.config front ++ rest) (places_mine key back)

  take_front : {X : Type 0} (front : List X) (x : X) (back : List X) → take (length front) (front ++ x ∷ back) ≡ front
  take_front [] x back = refl
  take_front {X} (first ∷ front) x back = ap (λ (rest : List X). first ∷ rest) (take_front front x back)

  read_middle : {X : Type 0} (front : List X) (x : X) (back : List X) → x ≡ get_or (front ++ x ∷ back) (length front) x
  read_middle [] x back = refl
  read_middle (first ∷ front) x back = read_middle front x back

  within_middle : {X : Type 0} (front : List X) (x : X) (back : List X) → length front < length (front ++ x ∷ back)
  within_middle [] x back = omega arith
  within_middle (first ∷ front) x back = let less = within_middle front x back in omega (arith, less)

  within : length before < length all_places
  within = subst (λ (places : List (Option Place)). length before < length places) (sym places_are) (within_middle before key.place (places_of key.config back))

  is_place : key.place ≡ get_or all_places (length before) key.place
  is_place =
      read_middle before key.place (places_of key.config back)
      ∙ ap (λ (places : List (Option Place)). get_or places (length before) key.place) (sym places_are)

  taken : take (length before) all_places ≡ before
  taken = ap (take (length before)) places_are ∙ take_front before key.place (places_of key.config back)

  differ : IsDistinct (option_eq place_eq) all_places
  differ = places_differ key.config (front ++ key ∷ back) order

  last_counts : last_of kept number last key.config ≡ length (with_boards (kept_of kept key.config) (take (length before) all_places))
  last_counts = last_is ∙ ap (λ (places : List (Option Place)). length (with_boards (kept_of kept key.config) places)) (sym taken)

  -- it has its index among all that come
  pub index_is : unwrap_or (index_of (kept_of kept key.config) key.place) (last_of kept number last key.config + 1)
      ≡ index_in (kept_with kept (front ++ key ∷ back) key.config) key.place
  index_is =
      index_given (kept_of kept key.config) all_places (length before) key.place differ within is_place (last_of kept number last key.config) last_counts

  -- and is counted
  pub counted_next : (now : ℕ)
      → now ≡ cond (has_board (kept_of kept key.config) key.place) (last_of kept number last key.config) (last_of kept number last key.config + 1)
      → IsCounted kept (front ++ key ∷ []) back (Some key.config) now
  counted_next now given = record {
    counted = λ m is. let same : key.config ≡ m = cc in
        subst (λ (m : ℕ). now ≡ length (with_boards (kept_of kept m) (places_of m (front ++ key ∷ [])))) same
        (count_more (kept_of kept key.config) all_places (length before) key.place differ within is_place
        (last_of kept number last key.config) now last_counts given
        ∙ ap (λ (places : List (Option Place)). length (with_boards (kept_of kept key.config) places)) one_more);
    past = λ m is. let same : key.config ≡ m = cc in subst (λ (m : ℕ). AllByRecursion (λ (each : BoardKey). each.config ≤ m) (front ++ key ∷ [])) same
        (all_append _ front (key ∷ []) (earlier front key back order) (omega arith, tt));
    ahead = λ m is. let same : key.config ≡ m = cc in
        subst (λ (m : ℕ). AllByRecursion (λ (each : BoardKey). m ≤ each.config) back) same (later front key back order);
    none = λ is. absurd (cc);
  }
    where
      one_more : take (length before + 1) all_places ≡ places_of key.config (front ++ key ∷ [])
      one_more =
          take_more all_places (length before) key.place within
          ∙ ap₂ (λ (front : List (Option Place)) (last : Option Place). front ++ last ∷ []) taken (sym is_place)
          ∙ sym (places_both key.config front (key ∷ []) ∙ ap (λ (rest : List (Option Place)). before ++ rest) (places_mine key []))

-- one more is listed, where it is naming
module _ (configs : List Config) (kept : ℕ → List (Option Place)) (front : List BoardKey) (key : BoardKey) (so_far : List Board)
    (before : so_far ≡ naming configs (board_list kept front)) where
  naming_last : naming configs (board_list kept (front ++ key ∷ []))
      ≡ naming configs (board_list kept front) ++ cond (is_naming configs key) (board_of kept key ∷ []) []
  naming_last =
      ap (naming configs) (map-append (board_of kept) front (key ∷ []))
      ∙ filter-append (λ (board : Board). is_naming configs board.key) (board_list kept front) (board_of kept key ∷ [])

  pub named_more : (index : ℕ) (now : List Board) → is_naming configs key ≡ true → index ≡ index_in (kept key.config) key.place
      → now ≡ so_far ++ (record { key = key; index = index }) ∷ [] → now ≡ naming configs (board_list kept (front ++ key ∷ []))
  named_more index now is index_is now_is =
      now_is ∙ ap₂ (λ (front : List Board) (n : ℕ). front ++ (record { key = key; index = n }) ∷ []) before index_is
      ∙ sym (naming_last ∙ ap (λ (b : Bool). naming configs (board_list kept front) ++ cond b (board_of kept key ∷ []) []) is)

  pub named_same : is_naming configs key ≡ false → so_far ≡ naming configs (board_list kept (front ++ key ∷ []))
  named_same is =
      before ∙ sym (naming_last ∙ ap (λ (b : Bool). naming configs (board_list kept front) ++ cond b (board_of kept key ∷ []) []) is
      ∙ append-nil (naming configs (board_list kept front)))

-- the naming boards of keys that ascend ascend
pub named_by_key : (configs : List Config) (kept : ℕ → List (Option Place)) (keys : List BoardKey) → AreKeysAscending keys
    → AreByKey (naming configs (board_list kept keys))
named_by_key configs kept keys order =
    ascending_filter (λ (board : Board). board.key) key_cmp (λ (board : Board). is_naming configs board.key) (board_list kept keys)
    (subst (IsStrictlySortedBy key_cmp)
    (sym (map-map (λ (board : Board). board.key) (board_of kept) keys ∙ map-id keys)) order)
