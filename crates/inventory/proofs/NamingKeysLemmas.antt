-- The keys of the naming boards among those that come. Each board of a configuration is naming, or none is.
use Rattle.std.proofs.Common.{◌≡◌, ◌∙◌, ℕ, ◌+◌, Bool, true, false, cond, List, [], ◌∷◌, ◌++◌, filter, map, take, drop}
use Rattle.std.proofs.Common.{Option, Some, option_map, slice_get, refl, sym, ap, subst, true≢false}
use mathlib.Core.List.{map-id}
use Rattle.std.specs.Prelude.{nat_eq}
use Rattle.std.specs.Option.{unwrap_or}
use Rattle.std.specs.List.Sorted.{IsStrictlySortedBy}
use Rattle.std.proofs.lemmas.Bool.{eqb-true}
use Rattle.std.proofs.lemmas.List.{append-nil, take-append-drop}
use Rattle.std.proofs.lemmas.List.Elements.{filter-append}
use Rattle.bmc_base.specs.Places.{Place}
use Rattle.cfg_json.specs.Configs.{Config, counts_of}
use Rattle.inventory.specs.Boards.{has_board}
use Rattle.inventory.specs.Differences.{places_of}
use Rattle.inventory.specs.Follows.{kept_with, last_of, AreKeysAscending}
use Rattle.inventory.specs.Indexes.{index_in, index_of, kept_of, with_boards}
use Rattle.inventory.specs.Limits.{no_counts}
use Rattle.inventory.specs.Naming.{has_naming, is_naming}
use Rattle.inventory.specs.Orders.{key_cmp}
use Rattle.inventory.specs.declared.board.BoardKey.{BoardKey}
use Rattle.inventory.proofs.ComingLemmas.{counted_next, index_is, IsCounted}
use Rattle.inventory.proofs.LessLemmas.{drop_at, take_at}
use Rattle.inventory.proofs.ListLemmas.{ascending_filter}

-- the keys of the naming boards
abbrev pub naming_keys : List Config → List BoardKey → List BoardKey
naming_keys configs keys = filter (is_naming configs) keys

naming_ascend : (configs : List Config) (keys : List BoardKey) → AreKeysAscending keys → AreKeysAscending (naming_keys configs keys)
naming_ascend configs keys order =
    subst (IsStrictlySortedBy key_cmp) (map-id (naming_keys configs keys))
    (ascending_filter (λ (key : BoardKey). key) key_cmp (is_naming configs) keys (subst (IsStrictlySortedBy key_cmp) (sym (map-id keys)) order))

-- ---- the boards of a configuration

naming_alike : (configs : List Config) (key other : BoardKey) → key.config ≡ other.config → is_naming configs key ≡ is_naming configs other
naming_alike configs key other same =
    ap (λ (number : ℕ).
    has_naming (unwrap_or (option_map (λ (config : Config). counts_of config.exposes) (slice_get configs number)) no_counts)) same

first_place : (number : ℕ) (key : BoardKey) (keys : List BoardKey) (mine : Bool) → nat_eq key.config number ≡ mine
    → places_of number (key ∷ keys) ≡ cond mine (key.place ∷ places_of number keys) (places_of number keys)
first_place number key keys mine is =
    ap (λ (is : Bool). map (λ (key : BoardKey). key.place) (cond is (key ∷ mine_of keys) (mine_of keys))) is ∙ by mine
  where
    mine_of : List BoardKey → List BoardKey
    mine_of keys = filter (λ (key : BoardKey). nat_eq key.config number) keys

    by : (mine : Bool) → map (λ (key : BoardKey). key.place) (cond mine (key ∷ mine_of keys) (mine_of keys))
        ≡ cond mine (key.place ∷ places_of number keys) (places_of number keys)
    by true = refl
    by false = refl

-- all of the boards of a configuration are naming where one is
naming_places : (configs : List Config) (key : BoardKey) → is_naming configs key ≡ true → (keys : List BoardKey)
    → places_of key.config (naming_keys configs keys) ≡ places_of key.config keys
naming_places configs key is [] = refl
naming_places configs key is (first ∷ keys) =
    by (nat_eq first.config key.config) refl (is_naming configs first) refl (naming_places configs key is keys)
  where
    by : (mine : Bool) → nat_eq first.config key.config ≡ mine → (passes : Bool) → is_naming configs first ≡ passes
        → places_of key.config (naming_keys configs keys) ≡ places_of key.config keys
        → places_of key.config (cond passes (first ∷ naming_keys configs keys) (naming_keys configs keys)) ≡ places_of key.config (first ∷ keys)
    by true mine true passes rest =
        first_place key.config first (naming_keys configs keys) true mine ∙ ap (λ (places : List (Option Place)). first.place ∷ places) rest
        ∙ sym (first_place key.config first keys true mine)
    by true mine false passes rest =
        absurd (true≢false (sym is ∙ naming_alike configs key first (sym (eqb-true first.config key.config mine)) ∙ passes))
    by false mine true passes rest =
        first_place key.config first (naming_keys configs keys) false mine ∙ rest ∙ sym (first_place key.config first keys false mine)
    by false mine false passes rest = rest ∙ sym (first_place key.config first keys false mine)

-- ---- one key after another

module _ (configs : List Config) (keys : List BoardKey) (i : ℕ) (key : BoardKey) (at : slice_get keys i ≡ Some key) where
  taken : (naming : Bool) → is_naming configs key ≡ naming
      → naming_keys configs (take (i + 1) keys) ≡ naming_keys configs (take i keys) ++ cond naming (key ∷ []) []
  taken naming is =
      ap (naming_keys configs) (take_at keys i key at) ∙ filter-append (is_naming configs) (take i keys) (key ∷ [])
      ∙ ap (λ (naming : Bool). naming_keys configs (take i keys) ++ cond naming (key ∷ []) []) is

  dropped : (naming : Bool) → is_naming configs key ≡ naming → naming_keys configs (drop i keys)
      ≡ cond naming (key ∷ naming_keys configs (drop (i + 1) keys)) (naming_keys configs (drop (i + 1) keys))
  dropped naming is =
      ap (naming_keys configs) (drop_at keys i key at)
      ∙ ap (λ (naming : Bool). cond naming (key ∷ naming_keys configs (drop (i + 1) keys)) (naming_keys configs (drop (i + 1) keys))) is

  split : is_naming configs key ≡ true
      → naming_keys configs (take i keys) ++ key ∷ naming_keys configs (drop (i + 1) keys) ≡ naming_keys configs keys
  split is =
      ap (λ (rest : List BoardKey). naming_keys configs (take i keys) ++ rest) (sym (dropped true is))
      ∙ sym (filter-append (is_naming configs) (take i keys) (drop i keys)) ∙ ap (naming_keys configs) (take-append-drop i keys)

  -- how far the naming boards are counted
  module _ (kept : List (List (Option Place))) (order : AreKeysAscending keys) (number : Option ℕ) (last : ℕ)
      (counted : IsCounted kept (naming_keys configs (take i keys)) (naming_keys configs (drop i keys)) number last) where
    counted_before : is_naming configs key ≡ true
        → IsCounted kept (naming_keys configs (take i keys)) (key ∷ naming_keys configs (drop (i + 1) keys)) number last
    counted_before is =
        subst (λ (back : List BoardKey). IsCounted kept (naming_keys configs (take i keys)) back number last) (dropped true is) counted

    order_before : is_naming configs key ≡ true
        → AreKeysAscending (naming_keys configs (take i keys) ++ key ∷ naming_keys configs (drop (i + 1) keys))
    order_before is = subst AreKeysAscending (sym (split is)) (naming_ascend configs keys order)

    -- a naming board has its index among all that come
    pub naming_index : is_naming configs key ≡ true
        → unwrap_or (index_of (kept_of kept key.config) key.place) (last_of kept number last key.config + 1)
        ≡ index_in (kept_with kept keys key.config) key.place
    naming_index is =
        index_is kept (naming_keys configs (take i keys)) (naming_keys configs (drop (i + 1) keys)) key number last (order_before is) (counted_before is)
        ∙ ap (λ (places : List (Option Place)). index_in (with_boards (kept_of kept key.config) places) key.place)
        (ap (places_of key.config) (split is) ∙ naming_places configs key is keys)

    -- and is counted
    pub naming_next : is_naming configs key ≡ true → (now : ℕ)
        → now ≡ cond (has_board (kept_of kept key.config) key.place) (last_of kept number last key.config) (last_of kept number last key.config + 1)
        → IsCounted kept (naming_keys configs (take (i + 1) keys)) (naming_keys configs (drop (i + 1) keys)) (Some key.config) now
    naming_next is now given =
        subst (λ (front : List BoardKey). IsCounted kept front (naming_keys configs (drop (i + 1) keys)) (Some key.config) now) (sym (taken true is))
        (counted_next kept (naming_keys configs (take i keys)) (naming_keys configs (drop (i + 1) keys)) key number last (order_before is)
        (counted_before is) now given)

    -- another is not
    pub other_next : is_naming configs key ≡ false
        → IsCounted kept (naming_keys configs (take (i + 1) keys)) (naming_keys configs (drop (i + 1) keys)) number last
    other_next is =
        subst (λ (front : List BoardKey). IsCounted kept front (naming_keys configs (drop (i + 1) keys)) number last)
        (sym (taken false is ∙ append-nil (naming_keys configs (take i keys))))
        (subst (λ (back : List BoardKey). IsCounted kept (naming_keys configs (take i keys)) back number last) (dropped false is) counted)
