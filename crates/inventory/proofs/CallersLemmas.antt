-- From one moment to the next: what callers know of the boards makes the items follow.
use Rattle.std.proofs.Common.{◌≡◌, ◌∙◌, ℕ, Bool, true, false, not, cond, ◌||◌, ◌&&◌, List, [], ◌∷◌, ◌++◌, map, filter, Option}
use Rattle.std.proofs.Common.{refl, sym, ap, ap₂, subst}
use Rattle.std.specs.Prelude.{option_and_then, option_map, slice_get}
use Rattle.std.specs.List.{AllByRecursion, flat_map, list_any, range_with_len}
use Rattle.std.specs.Option.{option_eq, unwrap_or}
use Rattle.std.proofs.lemmas.Bool.{and_parts}
use Rattle.std.proofs.lemmas.List.Kept.{IsStrictlySortedBy-filter}
use Rattle.std.proofs.lemmas.List.Elements.{filter-append}
use Rattle.bmc_base.specs.Places.{Place, place_eq}
use Rattle.fru_area.specs.declared.field.Field.{Field}
use Rattle.cfg_json.specs.Configs.{Config, counts_of}
use Rattle.cfg_json.specs.declared.item.Item.{Item}
use Rattle.inventory.specs.Boards.{has_board}
use Rattle.inventory.specs.Differences.{key_of, keys_left, places_of}
use Rattle.inventory.specs.Follows.{kept_with, key_eq, AreKeysAscending, Follows}
use Rattle.inventory.specs.Indexes.{index_in, kept_of}
use Rattle.inventory.specs.Items.{exposes_of}
use Rattle.inventory.specs.Limits.{no_counts}
use Rattle.inventory.specs.Lists.{board_list, board_of, keys_of}
use Rattle.inventory.specs.Moments.{AreAscending}
use Rattle.inventory.specs.Naming.{has_naming, is_naming, named_among, named_items, naming, naming_items}
use Rattle.inventory.specs.Orders.{exposer, id_cmp, key_cmp, AreById}
use Rattle.inventory.specs.declared.board.BoardKey.{BoardKey}
use Rattle.inventory.proofs.AscendLemmas.{all_flat_map}
use Rattle.inventory.proofs.BoardLemmas.{board_itself, board_same}
use Rattle.inventory.proofs.ComingLemmas.{named_by_key}
use Rattle.inventory.proofs.FollowsLemmas.{key_same}
use Rattle.inventory.proofs.IdsLemmas.{items_ascend, items_from, keys_ascend}
use Rattle.inventory.proofs.ListLemmas.{all_any, all_filter, all_map, all_weaker, ascending_filter, filter_alike, filter_all, filter_none}
use Rattle.inventory.proofs.ListingLemmas.{index_same}
use Rattle.inventory.proofs.NamingLemmas.{is_kin, lists_same, named_are_kin, named_kin}
use Rattle.inventory.proofs.ShownLemmas.{key_itself}

-- ---- keys

or_right : (one other : Bool) → other ≡ true → (one || other) ≡ true
or_right true other is = refl
or_right false other is = is

or_left : (one other : Bool) → one ≡ true → (one || other) ≡ true
or_left one other is = ap (λ (b : Bool). b || other) is

-- each key is among the keys
all_has : (keys : List BoardKey) → AllByRecursion (λ (key : BoardKey). list_any (key_eq key) keys ≡ true) keys
all_has [] = tt
all_has (key ∷ keys) =
    (or_left _ _ (key_itself key), all_weaker _ _ (λ (each : BoardKey) is. or_right (key_eq each key) _ is) keys (all_has keys))

-- an element is among those that pass a test, if it is among all and passes
has_filter : {X : Type 0} (eq : X → X → Bool) → ((x y : X) → eq x y ≡ true → x ≡ y) → (test : X → Bool) (key : X) (keys : List X)
    → list_any (eq key) (filter test keys) ≡ (list_any (eq key) keys && test key)
has_filter eq same_if test key [] = refl
has_filter {X} eq same_if test key (first ∷ keys) = by (test first) refl (eq key first) refl (has_filter eq same_if test key keys)
  where
    and_false : (b : Bool) → (b && false) ≡ false
    and_false true = refl
    and_false false = refl

    by : (passes : Bool) → test first ≡ passes → (same : Bool) → eq key first ≡ same
        → list_any (eq key) (filter test keys) ≡ (list_any (eq key) keys && test key)
        → list_any (eq key) (cond passes (first ∷ filter test keys) (filter test keys)) ≡ ((same || list_any (eq key) keys) && test key)
    by true passes true same later =
        or_left _ _ same ∙ sym (ap test (same_if key first same) ∙ passes)
    by true passes false same later = ap (λ (b : Bool). b || list_any (eq key) (filter test keys)) same ∙ later
    by false fails true same later =
        let failed : test key ≡ false = ap test (same_if key first same) ∙ fails in
        later ∙ ap (λ (b : Bool). list_any (eq key) keys && b) failed ∙ and_false (list_any (eq key) keys) ∙ sym failed
    by false fails false same later = later

-- ---- keys of boards

filter_flat : {X : Type 0} (test : BoardKey → Bool) (image : X → List BoardKey) (xs : List X)
    → filter test (flat_map image xs) ≡ flat_map (λ x. filter test (image x)) xs
filter_flat test image [] = refl
filter_flat test image (x ∷ xs) =
    filter-append test (image x) (flat_map image xs) ∙ ap (λ (rest : List BoardKey). filter test (image x) ++ rest) (filter_flat test image xs)

filter_keys : (number : ℕ) (test : BoardKey → Bool) (places : List (Option Place))
    → filter test (map (key_of number) places) ≡ map (key_of number) (filter (λ place. test (key_of number place)) places)
filter_keys number test [] = refl
filter_keys number test (place ∷ places) = by (test (key_of number place)) (filter_keys number test places)
  where
    by : (passes : Bool) → filter test (map (key_of number) places) ≡ map (key_of number) (filter (λ place. test (key_of number place)) places)
        → cond passes (key_of number place ∷ filter test (map (key_of number) places)) (filter test (map (key_of number) places))
        ≡ map (key_of number) (cond passes (place ∷ filter (λ place. test (key_of number place)) places) (filter (λ place. test (key_of number place)) places))
    by true later = ap (λ (rest : List BoardKey). key_of number place ∷ rest) later
    by false later = later

-- the keys that pass a test, by configuration
keys_passing : (count : ℕ) (boards : ℕ → List (Option Place)) (test : BoardKey → Bool)
    → filter test (keys_of count boards) ≡ keys_of count (λ number. filter (λ place. test (key_of number place)) (boards number))
keys_passing count boards test =
    filter_flat test (λ number. map (key_of number) (boards number)) (range_with_len 0 count)
    ∙ (λ i. flat_map (λ number. filter_keys number test (boards number) i) (range_with_len 0 count))

-- each key of boards is of a board that is among them
places_in : (places : List (Option Place)) → AllByRecursion (λ (place : Option Place). has_board places place ≡ true) places
places_in [] = tt
places_in (place ∷ places) =
    (or_left _ _ (board_itself place), all_weaker _ _ (λ (each : Option Place) is. or_right (option_eq place_eq each place) _ is) places (places_in places))

keys_in : (count : ℕ) (boards : ℕ → List (Option Place))
    → AllByRecursion (λ (key : BoardKey). has_board (boards key.config) key.place ≡ true) (keys_of count boards)
keys_in count boards =
    all_flat_map (λ (key : BoardKey). has_board (boards key.config) key.place ≡ true) (λ (number : ℕ). Unit {0}) (λ number. map (key_of number) (boards number))
    (λ number u. all_map _ (key_of number) (boards number) (places_in (boards number))) (range_with_len 0 count)
    (all_any _ (λ number. tt) (range_with_len 0 count))

both_all : {X : Type 0} (One Two Three : X → Type 0) → ((x : X) → One x → Two x → Three x) → (xs : List X) → AllByRecursion One xs → AllByRecursion Two xs
    → AllByRecursion Three xs
both_all One Two Three gives [] one two = tt
both_all One Two Three gives (x ∷ xs) one two = (gives x one.0 two.0, both_all One Two Three gives xs one.1 two.1)

-- ---- the items of boards

module _ (configs : List Config) where
  naming_first : (kept : ℕ → List (Option Place)) (fields : Place → Option (List Field)) (key : BoardKey) (keys : List BoardKey)
      → naming_items configs kept fields (key ∷ keys)
      ≡ cond (is_naming configs key) (named_items configs fields (board_of kept key)) [] ++ naming_items configs kept fields keys
  naming_first kept fields key keys = by (is_naming configs key)
    where
      by : (is : Bool)
          → flat_map (named_items configs fields) (cond is (board_of kept key ∷ naming configs (board_list kept keys)) (naming configs (board_list kept keys)))
          ≡ cond is (named_items configs fields (board_of kept key)) [] ++ flat_map (named_items configs fields) (naming configs (board_list kept keys))
      by true = refl
      by false = refl

  on_key : (kept : ℕ → List (Option Place)) (fields : Place → Option (List Field)) (key : BoardKey)
      → AllByRecursion (λ (item : Item). exposer item.id ≡ key) (cond (is_naming configs key) (named_items configs fields (board_of kept key)) [])
  on_key kept fields key = by (is_naming configs key)
    where
      by : (is : Bool) → AllByRecursion (λ (item : Item). exposer item.id ≡ key) (cond is (named_items configs fields (board_of kept key)) [])
      by true =
          subst (AllByRecursion (λ (item : Item). exposer item.id ≡ key))
          (sym (named_are_kin (board_of kept key) (option_and_then fields key.place) 0 (exposes_of configs key.config)))
          (all_filter _ is_kin _ (all_weaker _ _ (λ (item : Item) is. is.0) _ (items_from fields (board_of kept key) 0 (exposes_of configs key.config))))
      by false = tt

  no_naming : (kept : ℕ → List (Option Place)) (fields : Place → Option (List Field)) → naming_items configs kept fields [] ≡ []
  no_naming kept fields = refl

  -- the items of the boards that pass a test
  part_naming : (kept : ℕ → List (Option Place)) (fields : Place → Option (List Field)) (part : BoardKey → Bool) (keys : List BoardKey)
      → filter (λ (item : Item). part (exposer item.id)) (naming_items configs kept fields keys) ≡ naming_items configs kept fields (filter part keys)
  part_naming kept fields part [] =
      ap (filter (λ (item : Item). part (exposer item.id))) (no_naming kept fields) ∙ sym (no_naming kept fields)
  part_naming kept fields part (key ∷ keys) =
      ap (filter (λ (item : Item). part (exposer item.id))) (naming_first kept fields key keys)
      ∙ filter-append (λ (item : Item). part (exposer item.id)) (cond (is_naming configs key) (named_items configs fields (board_of kept key)) [])
      (naming_items configs kept fields keys)
      ∙ by (part key) refl (part_naming kept fields part keys)
    where
      own : (is : Bool) → part key ≡ is → AllByRecursion (λ (item : Item). part (exposer item.id) ≡ is)
          (cond (is_naming configs key) (named_items configs fields (board_of kept key)) [])
      own is eq = all_weaker _ _ (λ (item : Item) mine. ap part mine ∙ eq) _ (on_key kept fields key)

      by : (is : Bool) → part key ≡ is
          → filter (λ (item : Item). part (exposer item.id)) (naming_items configs kept fields keys) ≡ naming_items configs kept fields (filter part keys)
          → filter (λ (item : Item). part (exposer item.id)) (cond (is_naming configs key) (named_items configs fields (board_of kept key)) [])
          ++ filter (λ (item : Item). part (exposer item.id)) (naming_items configs kept fields keys)
          ≡ naming_items configs kept fields (cond is (key ∷ filter part keys) (filter part keys))
      by true is later =
          ap₂ (λ (front back : List Item). front ++ back) (filter_all (λ (item : Item). part (exposer item.id)) _ (own true is)) later
          ∙ sym (naming_first kept fields key (filter part keys))
      by false is later = ap₂ (λ (front back : List Item). front ++ back) (filter_none (λ (item : Item). part (exposer item.id)) _ (own false is)) later

  -- boards with the same indexes and fields have the same items
  naming_alike : (kept kept_now : ℕ → List (Option Place)) (fields fields_now : Place → Option (List Field)) (keys : List BoardKey)
      → AllByRecursion (λ (key : BoardKey). (index_in (kept key.config) key.place ≡ index_in (kept_now key.config) key.place)
      × (option_and_then fields key.place ≡ option_and_then fields_now key.place)) keys
      → naming_items configs kept fields keys ≡ naming_items configs kept_now fields_now keys
  naming_alike kept kept_now fields fields_now [] alike = no_naming kept fields ∙ sym (no_naming kept_now fields_now)
  naming_alike kept kept_now fields fields_now (key ∷ keys) alike =
      naming_first kept fields key keys
      ∙ ap₂ (λ (front back : List Item). front ++ back)
      (ap₂ (λ (index : ℕ) (fields : Option (List Field)). cond (is_naming configs key)
      (named_among (record { key = key; index = index }) fields (exposes_of configs key.config)) []) alike.0.0 alike.0.1)
      (naming_alike kept kept_now fields fields_now keys alike.1)
      ∙ sym (naming_first kept_now fields_now key keys)

-- boards of configurations that are the same in both have the same items
pub configs_alike : (one other : List Config) (kept : ℕ → List (Option Place)) (fields : Place → Option (List Field)) (keys : List BoardKey)
    → AllByRecursion (λ (key : BoardKey). slice_get one key.config ≡ slice_get other key.config) keys
    → naming_items one kept fields keys ≡ naming_items other kept fields keys
configs_alike one other kept fields [] alike = no_naming one kept fields ∙ sym (no_naming other kept fields)
configs_alike one other kept fields (key ∷ keys) alike =
    naming_first one kept fields key keys
    ∙ ap₂ (λ (front back : List Item). front ++ back)
    (ap (λ (config : Option Config). cond
    (has_naming (unwrap_or (option_map (λ (config : Config). counts_of config.exposes) config) no_counts))
    (named_among (board_of kept key) (option_and_then fields key.place)
    (unwrap_or (option_map (λ (config : Config). config.exposes) config) [])) []) alike.0)
    (configs_alike one other kept fields keys alike.1)
    ∙ sym (naming_first other kept fields key keys)

-- ---- from one moment to the next

-- The boards before and after ascend, each board before is kept, and the fields at the places of boards that stay are the same: then the items after
-- follow those before, where boards go that are before and not after, and boards come that are after and not before.
module _ (configs : List Config) (count : ℕ) (kept : List (List (Option Place))) (before after : ℕ → List (Option Place))
    (fields fields_after : Place → Option (List Field)) (ascend : (number : ℕ) → AreAscending (before number))
    (ascend_after : (number : ℕ) → AreAscending (after number))
    (holds : (number : ℕ) (place : Option Place) → has_board (before number) place ≡ true → has_board (kept_of kept number) place ≡ true)
    (alike : (number : ℕ) (place : Option Place) → has_board (before number) place ≡ true → has_board (after number) place ≡ true
    → option_and_then fields place ≡ option_and_then fields_after place) where
  -- what goes are the keys before that are not after
  gone_is : keys_left count before after ≡ filter (λ (key : BoardKey). not (has_board (after key.config) key.place)) (keys_of count before)
  gone_is = sym (keys_passing count before (λ (key : BoardKey). not (has_board (after key.config) key.place)))

  new_is : keys_left count after before ≡ filter (λ (key : BoardKey). not (has_board (before key.config) key.place)) (keys_of count after)
  new_is = sym (keys_passing count after (λ (key : BoardKey). not (has_board (before key.config) key.place)))

  has_gone : (key : BoardKey) → list_any (key_eq key) (keys_left count before after)
      ≡ (list_any (key_eq key) (keys_of count before) && not (has_board (after key.config) key.place))
  has_gone key =
      ap (list_any (key_eq key)) gone_is
      ∙ has_filter key_eq key_same (λ (key : BoardKey). not (has_board (after key.config) key.place)) key (keys_of count before)

  has_new : (key : BoardKey) → list_any (key_eq key) (keys_left count after before)
      ≡ (list_any (key_eq key) (keys_of count after) && not (has_board (before key.config) key.place))
  has_new key =
      ap (list_any (key_eq key)) new_is
      ∙ has_filter key_eq key_same (λ (key : BoardKey). not (has_board (before key.config) key.place)) key (keys_of count after)

  and_false : (b : Bool) → (b && false) ≡ false
  and_false true = refl
  and_false false = refl

  not_not : (b : Bool) → not (not b) ≡ b
  not_not true = refl
  not_not false = refl

  stays_before : filter (λ (key : BoardKey). not (list_any (key_eq key) (keys_left count before after))) (keys_of count before)
      ≡ keys_of count (λ number. filter (has_board (after number)) (before number))
  stays_before =
      filter_alike (λ (key : BoardKey). not (list_any (key_eq key) (keys_left count before after))) (λ (key : BoardKey). has_board (after key.config) key.place)
      (keys_of count before)
      (all_weaker _ _ (λ (key : BoardKey) is.
      ap not (has_gone key ∙ ap (λ (b : Bool). b && not (has_board (after key.config) key.place)) is) ∙ not_not (has_board (after key.config) key.place))
      (keys_of count before) (all_has (keys_of count before)))
      ∙ keys_passing count before (λ (key : BoardKey). has_board (after key.config) key.place)

  stays_after : filter (λ (key : BoardKey). not (list_any (key_eq key) (keys_left count after before))) (keys_of count after)
      ≡ keys_of count (λ number. filter (has_board (before number)) (after number))
  stays_after =
      filter_alike (λ (key : BoardKey). not (list_any (key_eq key) (keys_left count after before)))
      (λ (key : BoardKey). has_board (before key.config) key.place)
      (keys_of count after)
      (all_weaker _ _ (λ (key : BoardKey) is.
      ap not (has_new key ∙ ap (λ (b : Bool). b && not (has_board (before key.config) key.place)) is) ∙ not_not (has_board (before key.config) key.place))
      (keys_of count after) (all_has (keys_of count after)))
      ∙ keys_passing count after (λ (key : BoardKey). has_board (before key.config) key.place)

  has_passing : (test : Option Place → Bool) (places : List (Option Place)) (place : Option Place)
      → has_board (filter test places) place ≡ (has_board places place && test place)
  has_passing test places place = has_filter (option_eq place_eq) board_same test place places

  in_both : (one other : ℕ → List (Option Place)) (number : ℕ) (place : Option Place) → has_board (filter (has_board (other number)) (one number)) place ≡ true
      → has_board (filter (has_board (one number)) (other number)) place ≡ true
  in_both one other number place is =
      let parts = and_parts (has_board (one number) place) (has_board (other number) place)
      (sym (has_passing (has_board (other number)) (one number) place) ∙ is) in
      has_passing (has_board (one number)) (other number) place ∙ ap₂ (λ (a b : Bool). a && b) parts.1 parts.0

  passing_ascends : (test : Option Place → Bool) (places : List (Option Place)) → AreAscending places → AreAscending (filter test places)
  passing_ascends test places order = IsStrictlySortedBy-filter _ test places order

  -- the same boards stay
  same_boards : (number : ℕ) → filter (has_board (after number)) (before number) ≡ filter (has_board (before number)) (after number)
  same_boards number =
      lists_same (filter (has_board (after number)) (before number)) (filter (has_board (before number)) (after number))
      (passing_ascends (has_board (after number)) (before number) (ascend number))
      (passing_ascends (has_board (before number)) (after number) (ascend_after number))
      (in_both before after number) (in_both after before number)

  stays : filter (λ (key : BoardKey). not (list_any (key_eq key) (keys_left count before after))) (keys_of count before)
      ≡ filter (λ (key : BoardKey). not (list_any (key_eq key) (keys_left count after before))) (keys_of count after)
  stays = stays_before ∙ (λ i. keys_of count (λ number. same_boards number i)) ∙ sym stays_after

  stay_facts : AllByRecursion
      (λ (key : BoardKey). (index_in (kept_of kept key.config) key.place ≡ index_in (kept_with kept (keys_left count after before) key.config) key.place)
      × (option_and_then fields key.place ≡ option_and_then fields_after key.place))
      (filter (λ (key : BoardKey). not (list_any (key_eq key) (keys_left count before after))) (keys_of count before))
  stay_facts =
      both_all (λ (key : BoardKey). has_board (before key.config) key.place ≡ true) (λ (key : BoardKey). has_board (after key.config) key.place ≡ true) _
      (λ (key : BoardKey) is also. (
        sym (index_same (kept_of kept key.config) (places_of key.config (keys_left count after before)) key.place (holds key.config key.place is)),
        alike key.config key.place is also,
      ))
      (filter (λ (key : BoardKey). not (list_any (key_eq key) (keys_left count before after))) (keys_of count before))
      (all_filter _ (λ (key : BoardKey). not (list_any (key_eq key) (keys_left count before after))) (keys_of count before) (keys_in count before))
      (subst (AllByRecursion (λ (key : BoardKey). has_board (after key.config) key.place ≡ true)) (sym stays)
      (all_filter _ (λ (key : BoardKey). not (list_any (key_eq key) (keys_left count after before))) (keys_of count after) (keys_in count after)))

  comes : filter (λ (key : BoardKey). list_any (key_eq key) (keys_left count after before)) (keys_of count after) ≡ keys_left count after before
  comes =
      filter_alike (λ (key : BoardKey). list_any (key_eq key) (keys_left count after before))
      (λ (key : BoardKey). not (has_board (before key.config) key.place))
      (keys_of count after)
      (all_weaker _ _ (λ (key : BoardKey) is. has_new key ∙ ap (λ (b : Bool). b && not (has_board (before key.config) key.place)) is) (keys_of count after)
      (all_has (keys_of count after)))
      ∙ sym new_is

  none_fresh : filter (λ (key : BoardKey). list_any (key_eq key) (keys_left count after before)) (keys_of count before) ≡ []
  none_fresh =
      filter_none (λ (key : BoardKey). list_any (key_eq key) (keys_left count after before)) (keys_of count before)
      (all_weaker _ _ (λ (key : BoardKey) is. has_new key ∙ ap (λ (b : Bool). list_any (key_eq key) (keys_of count after) && not b) is
      ∙ and_false (list_any (key_eq key) (keys_of count after))) (keys_of count before) (keys_in count before))

  none_left : filter (λ (key : BoardKey). list_any (key_eq key) (keys_left count before after)) (keys_of count after) ≡ []
  none_left =
      filter_none (λ (key : BoardKey). list_any (key_eq key) (keys_left count before after)) (keys_of count after)
      (all_weaker _ _ (λ (key : BoardKey) is. has_gone key ∙ ap (λ (b : Bool). list_any (key_eq key) (keys_of count before) && not b) is
      ∙ and_false (list_any (key_eq key) (keys_of count before))) (keys_of count after) (keys_in count after))

  pub follows_moment : Follows (keys_left count before after) (keys_left count after before) (naming_items configs (kept_of kept) fields (keys_of count before))
      (naming_items configs (kept_with kept (keys_left count after before)) fields_after (keys_left count after before))
      (naming_items configs (kept_with kept (keys_left count after before)) fields_after (keys_of count after))
  follows_moment = record {
    order = subst AreById (sym (named_kin configs fields_after _))
        (ascending_filter (λ (item : Item). item.id) id_cmp is_kin _ (items_ascend configs fields_after _
        (named_by_key configs (kept_with kept (keys_left count after before)) (keys_of count after) (keys_ascend after count ascend_after))));
    stay =
        part_naming configs (kept_of kept) fields (λ key. not (list_any (key_eq key) (keys_left count before after))) (keys_of count before)
        ∙ naming_alike configs (kept_of kept) (kept_with kept (keys_left count after before)) fields fields_after _ stay_facts
        ∙ ap (naming_items configs (kept_with kept (keys_left count after before)) fields_after) stays
        ∙ sym (part_naming configs (kept_with kept (keys_left count after before)) fields_after
        (λ key. not (list_any (key_eq key) (keys_left count after before))) (keys_of count after));
    come =
        part_naming configs (kept_with kept (keys_left count after before)) fields_after (λ key. list_any (key_eq key) (keys_left count after before))
        (keys_of count after)
        ∙ ap (naming_items configs (kept_with kept (keys_left count after before)) fields_after) comes;
    fresh =
        part_naming configs (kept_of kept) fields (λ key. list_any (key_eq key) (keys_left count after before)) (keys_of count before)
        ∙ ap (naming_items configs (kept_of kept) fields) none_fresh ∙ no_naming configs (kept_of kept) fields;
    left =
        part_naming configs (kept_with kept (keys_left count after before)) fields_after (λ key. list_any (key_eq key) (keys_left count before after))
        (keys_of count after)
        ∙ ap (naming_items configs (kept_with kept (keys_left count after before)) fields_after) none_left
        ∙ no_naming configs (kept_with kept (keys_left count after before)) fields_after;
  }

  pub new_ascend : AreKeysAscending (keys_left count after before)
  new_ascend =
      subst AreKeysAscending (sym new_is)
      (IsStrictlySortedBy-filter key_cmp (λ (key : BoardKey). not (has_board (before key.config) key.place)) (keys_of count after)
      (keys_ascend after count ascend_after))
