-- The boards that go and those that are new, by configuration.
use Rattle.std.proofs.Common.{◌≡◌, ℕ, zero, suc, ◌+◌, ◌<◌, ◌≤◌, List, [], ◌∷◌, ◌++◌, map, filter, length, Bool, true, false, cond, nat_eq, Option}
use Rattle.std.proofs.Common.{refl, ap, ap₂, sym}
use Rattle.std.proofs.Common.{◌∙◌, arith, append-nil, filter_map, option_map}
use Rattle.std.specs.Prelude.{nat_lt, ◌≢◌}
use Rattle.std.specs.Option.{unwrap_or}
use Rattle.std.specs.List.{flat_map, range_with_len}
use Rattle.std.proofs.lemmas.Bool.{eq-eqb, eqb-true, false_from_ne_true}
use Rattle.std.proofs.lemmas.Bool.Decides.{nat_tests}
use Rattle.std.proofs.lemmas.List.{map-append}
use Rattle.std.proofs.lemmas.List.Elements.{filter-append, All-nil, All-cons, All-append}
use Rattle.std.proofs.lemmas.Option.{slice_get_past}
use Rattle.bmc_base.specs.Places.{Place}
use Rattle.probe_lang.specs.Sights.{Sight}
use Rattle.cfg_json.specs.Configs.{Config}
use Rattle.cfg_json.specs.declared.item.Item.{Item}
use Rattle.found_set.specs.Found.{is_found, is_reached}
use Rattle.inventory.specs.Boards.{boards_in, board_places, config_places, rules_of, has_board}
use Rattle.inventory.specs.Indexes.{kept_of, except, with_boards, index_in}
use Rattle.inventory.specs.Differences.{key_of, keys_left, places_of}
use Rattle.inventory.specs.Items.{items_less, live}
use Rattle.inventory.specs.declared.board.BoardKey.{BoardKey}
use Rattle.bmc_report.specs.declared.change.Change.{Change}
use Rattle.bmc_report.specs.declared.change.Change.TheVariants.{Board}
use Rattle.bmc_machine.specs.Boards.{name_of}
use Rattle.bmc_machine.specs.Changes.{board_change, boards_left, item_change, changes_between}
use Rattle.bmc_watch.specs.Watches.{WatchView, view_boards, view_items, view_inventory, Moves}
use Rattle.bmc_watch.specs.Changes.{IsDifference, AreWithin, Tells}

-- ---- the places of one configuration

-- the keys of the configurations from this number on, of each by this list
abbrev pub keys_by : (ℕ → List (Option Place)) → ℕ → ℕ → List BoardKey
keys_by places from count = flat_map (λ each. map (key_of each) (places each)) (range_with_len from count)

module _ (number : ℕ) where
  places_append : (front back : List BoardKey) → places_of number (front ++ back) ≡ places_of number front ++ places_of number back
  places_append front back =
      ap (map (λ (key : BoardKey). key.place)) (filter-append (λ (key : BoardKey). nat_eq key.config number) front back)
      ∙ map-append (λ (key : BoardKey). key.place) (filter (λ (key : BoardKey). nat_eq key.config number) front)
      (filter (λ (key : BoardKey). nat_eq key.config number) back)

  places_own : (places : List (Option Place)) → places_of number (map (key_of number) places) ≡ places
  places_own [] = refl
  places_own (place ∷ places) =
      ap (λ (own : Bool). map (λ (key : BoardKey). key.place) (cond own (key_of number place ∷ filter (λ (key : BoardKey). nat_eq key.config number)
      (map (key_of number) places)) (filter (λ (key : BoardKey). nat_eq key.config number) (map (key_of number) places)))) (eq-eqb number number refl)
      ∙ ap (λ (later : List (Option Place)). place ∷ later) (places_own places)

  places_other : (other : ℕ) (places : List (Option Place)) → nat_eq other number ≡ false → places_of number (map (key_of other) places) ≡ []
  places_other other [] differ = refl
  places_other other (place ∷ places) differ =
      ap (λ (own : Bool). map (λ (key : BoardKey). key.place) (cond own (key_of other place ∷ filter (λ (key : BoardKey). nat_eq key.config number)
      (map (key_of other) places)) (filter (λ (key : BoardKey). nat_eq key.config number) (map (key_of other) places)))) differ
      ∙ places_other other places differ

  places_outside : (places : ℕ → List (Option Place)) (from count : ℕ) → number < from → places_of number (keys_by places from count) ≡ []
  places_outside places from zero before = refl
  places_outside places from (suc count) before =
      places_append (map (key_of from) (places from)) (keys_by places (from + 1) count)
      ∙ ap₂ (λ (front back : List (Option Place)). front ++ back)
      (places_other from (places from) (false_from_ne_true _ (λ same. let is = eqb-true from number same in absurd (omega (arith, before, is)))))
      (places_outside places (from + 1) count (omega (arith, before)))

  places_behind : (places : ℕ → List (Option Place)) (from count : ℕ) → from + count ≤ number → places_of number (keys_by places from count) ≡ []
  places_behind places from zero behind = refl
  places_behind places from (suc count) behind =
      places_append (map (key_of from) (places from)) (keys_by places (from + 1) count)
      ∙ ap₂ (λ (front back : List (Option Place)). front ++ back)
      (places_other from (places from) (false_from_ne_true _ (λ same. let is = eqb-true from number same in absurd (omega (arith, behind, is)))))
      (places_behind places (from + 1) count (omega (arith, behind)))

  places_within : (places : ℕ → List (Option Place)) (from count : ℕ) → from ≤ number → number < from + count
      → places_of number (keys_by places from count) ≡ places number
  places_within places from zero low high = absurd (omega (arith, low, high))
  places_within places from (suc count) low high =
      places_append (map (key_of from) (places from)) (keys_by places (from + 1) count)
      ∙ by (nat_eq from number) refl (λ later. places_within places (from + 1) count later (omega (arith, high)))
    where
      by : (same : Bool) → nat_eq from number ≡ same
          → (from + 1 ≤ number → places_of number (keys_by places (from + 1) count) ≡ places number)
          → places_of number (map (key_of from) (places from)) ++ places_of number (keys_by places (from + 1) count) ≡ places number
      by true is rest =
          let here : from ≡ number = eqb-true from number is in
          ap₂ (λ (front back : List (Option Place)). front ++ back)
          (ap (λ each. places_of number (map (key_of each) (places each))) here ∙ places_own (places number))
          (places_outside places (from + 1) count (omega (arith, here)))
          ∙ append-nil (places number)
      by false is rest =
          let apart : from ≢ number = λ same. absurd (let equal = eq-eqb from number same in cc) in
          ap₂ (λ (front back : List (Option Place)). front ++ back) (places_other from (places from) is) (rest (omega (arith, low, apart)))

-- of each configuration those are left that are here and not there
pub places_left : (number count : ℕ) (here there : ℕ → List (Option Place)) → (count ≤ number → here number ≡ [])
    → places_of number (keys_left count here there) ≡ except (has_board (there number)) (here number)
places_left number count here there none = by (nat_lt number count) refl
  where
    by : (is_within : Bool) → nat_lt number count ≡ is_within → places_of number (keys_left count here there) ≡ except (has_board (there number)) (here number)
    by true is = places_within number (λ each. except (has_board (there each)) (here each)) 0 count (omega arith) (grind (arith, nat_tests, is))
    by false is =
        let behind : count ≤ number = grind (arith, nat_tests, is) in
        places_behind number (λ each. except (has_board (there each)) (here each)) 0 count (omega (arith, behind))
        ∙ sym (ap (except (has_board (there number))) (none behind))

-- ---- the configurations of keys

within_own : (number count : ℕ) (places : List (Option Place)) → number < count → AreWithin (map (key_of number) places) count
within_own number count [] few = All-nil _
within_own number count (place ∷ places) few = All-cons (λ (key : BoardKey). key.config < count) (key_of number place)
    (map (key_of number) places) few (within_own number count places few)

pub within_by : (places : ℕ → List (Option Place)) (from n count : ℕ) → from + n ≤ count → AreWithin (keys_by places from n) count
within_by places from zero count few = All-nil _
within_by places from (suc n) count few =
    All-append (λ (key : BoardKey). key.config < count) (map (key_of from) (places from)) (keys_by places (from + 1) n)
    (within_own from count (places from) (omega (arith, few)))
    (within_by places (from + 1) n count (omega (arith, few)))

pub keys_within : (count : ℕ) (here there : ℕ → List (Option Place)) → AreWithin (keys_left count here there) count
keys_within count here there = within_by (λ each. except (has_board (there each)) (here each)) 0 count count (omega arith)

changes_alike : (test other : BoardKey → Change) (count : ℕ) (keys : List BoardKey) → AreWithin keys count
    → ((key : BoardKey) → key.config < count → test key ≡ other key) → map test keys ≡ map other keys
changes_alike test other count [] within alike = refl
changes_alike test other count (key ∷ keys) within alike =
    ap₂ (λ (first : Change) (later : List Change). first ∷ later) (alike key (within 0 key (omega arith)))
    (changes_alike test other count keys (λ k d few. within (suc k) d (omega (arith, few))) alike)

name_front : (configs more : List Config) (number : ℕ) → number < length configs → name_of (configs ++ more) number ≡ name_of configs number
name_front [] more number few = absurd (omega (arith, few))
name_front (config ∷ configs) more zero few = refl
name_front (config ∷ configs) more (suc number) few = name_front configs more number (omega (arith, few))

-- where there is no configuration there is no board
pub no_boards : (configs : List Config) (sights : List Sight) (number : ℕ) → length configs ≤ number → boards_in configs sights number ≡ []
unfolding boards_in board_places
no_boards configs sights number few =
    ap (λ (config : Option Config). unwrap_or (option_map (config_places (is_found (rules_of configs) sights)
    (is_reached (rules_of configs) sights) sights number)
    config) []) (slice_get_past configs number few)

-- what was staged is kept
pub keeps : (old new : WatchView) (gone fresh : List BoardKey) (kept kept_now : List (List (Option Place))) (told : List Change)
    → IsDifference (length old.configs) (length new.configs) (view_boards old) (view_boards new) gone fresh
    → ((number : ℕ) → kept_of kept number ≡ kept_of old.kept number) → Tells new.configs gone fresh kept kept_now told → new.kept ≡ kept_now
    → (number : ℕ)
    → kept_of new.kept number ≡ with_boards (kept_of old.kept number) (except (has_board (view_boards old number)) (view_boards new number))
keeps old new gone fresh kept kept_now told differs same tells kept_are number =
    ap (λ (lists : List (List (Option Place))). kept_of lists number) kept_are ∙ tells.all_kept number
    ∙ ap₂ with_boards (same number)
    (ap (places_of number) differs.those_new ∙ places_left number (length new.configs) (view_boards new) (view_boards old)
    (λ few. no_boards new.configs _ number few))

-- what was staged is taken over, and the live items that go and come are told behind it
pub moves : (old new : WatchView) (more : List Config) (gone fresh : List BoardKey) (kept kept_now : List (List (Option Place))) (told : List Change)
    (before after gone_items fresh_items : List Item)
    → new.configs ≡ old.configs ++ more → IsDifference (length old.configs) (length new.configs) (view_boards old) (view_boards new) gone fresh
    → ((number : ℕ) → kept_of kept number ≡ kept_of old.kept number) → Tells new.configs gone fresh kept kept_now told → new.kept ≡ kept_now
    → live before ≡ live (view_items old) → live after ≡ live (view_items new)
    → gone_items ≡ items_less (live before) (live after) → fresh_items ≡ items_less (live after) (live before)
    → new.changes ≡ told ++ filter_map (item_change true) gone_items ++ filter_map (item_change false) fresh_items → Moves old new
unfolding changes_between
moves old new more gone fresh kept kept_now told before after gone_items fresh_items configs differs same tells kept_are was is gone_are fresh_are changes =
    record {
      kept = keeps old new gone fresh kept kept_now told differs same tells kept_are;
      changes =
          changes ∙ ap₂ (λ (front back : List Change). front ++ back)
          (ap₂ (λ (front back : List Change). front ++ back)
          (tells.told ∙ ap₂ (λ (front back : List Change). front ++ back) gone_changes fresh_changes)
          (ap (filter_map (item_change true)) (gone_are ∙ ap₂ items_less was is)))
          (ap (filter_map (item_change false)) (fresh_are ∙ ap₂ items_less is was));
    }
  where
    gone_changes : map (board_change true new.configs (kept_of kept)) gone ≡ boards_left true (view_inventory old) (view_inventory new)
    gone_changes =
        ap (map (board_change true new.configs (kept_of kept))) differs.those_gone
        ∙ changes_alike _ _ (length old.configs) _ (keys_within (length old.configs) (view_boards old) (view_boards new)) as_before
      where
        as_before : (key : BoardKey) → key.config < length old.configs
            → board_change true new.configs (kept_of kept) key ≡ board_change true old.configs (kept_of old.kept) key
        as_before key few =
            ap₂ (λ (name : List ℕ) (kept : List (Option Place)). Board true name (index_in kept key.place) key.place)
            (ap (λ (configs : List Config). name_of configs key.config) configs ∙ name_front old.configs more key.config few) (same key.config)

    fresh_changes : map (board_change false new.configs (kept_of kept_now)) fresh ≡ boards_left false (view_inventory new) (view_inventory old)
    fresh_changes =
        ap₂ (λ (kept : List (List (Option Place))) (keys : List BoardKey). map (board_change false new.configs (kept_of kept)) keys)
        (sym kept_are) differs.those_new
