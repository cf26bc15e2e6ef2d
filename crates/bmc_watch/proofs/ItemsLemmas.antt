-- What boards expose, over all FRUs and over the busy ones alone.
use Rattle.std.specs.Prelude.{⊤}
use Rattle.std.proofs.Common.{◌≡◌, ◌∙◌, ℕ, List, [], ◌∷◌, ◌++◌, map, Bool, true, false, not, cond, ◌||◌, Option, Some, None, refl, sym, ap, ap₂}
use Rattle.std.proofs.Common.{subst, find, inl, inr}
use Rattle.std.specs.Prelude.{slice_get, option_map, option_and_then}
use Rattle.std.proofs.lemmas.Cmp.{tied_itself}
use Rattle.std.specs.Option.{option_eq, unwrap_or}
use Rattle.std.specs.List.{AllByRecursion, range_with_len}
use Rattle.std.specs.List.Sorted.{IsStrictlySortedBy}
use Rattle.std.specs.Ordering.{is_eq, ordering_reverse}
use Rattle.std.specs.declared.cmp.Ordering.{Ordering}
use Rattle.std.specs.declared.cmp.Ordering.TheVariants.{Less, Equal, Greater}
use Rattle.std.proofs.lemmas.Bool.{or_cases}
use Rattle.bmc_base.specs.Places.{Place, place_cmp, place_eq}
use Rattle.fru_area.specs.declared.field.Field.{Field}
use Rattle.probe_lang.specs.Presents.{holds_place, is_entry_at, without_entry}
use Rattle.probe_lang.specs.Sights.{Sight, entry_sight}
use Rattle.probe_lang.specs.declared.rows.Entry.{Entry}
use Rattle.cfg_json.specs.Configs.{Config}
use Rattle.match_rows.proofs.PlacesLemmas.{place_total}
use Rattle.found_set.specs.Found.{is_found, is_reached, on_buses}
use Rattle.fru_rows.specs.Idle.{is_idle, busy}
use Rattle.inventory.specs.Boards.{hit_places, places_or_none, config_places, board_places, boards_in, has_board, rules_of}
use Rattle.inventory.specs.Differences.{key_of}
use Rattle.inventory.specs.Items.{board_fields, entry_fields, exposes_of, rendered_items, items}
use Rattle.inventory.specs.Lists.{board_of, board_list, keys_of}
use Rattle.inventory.specs.Moments.{IsAmong}
use Rattle.inventory.specs.declared.board.Board.{Board}
use Rattle.inventory.specs.declared.board.BoardKey.{BoardKey}
use Rattle.inventory.proofs.AscendLemmas.{all_flat_map}
use Rattle.inventory.proofs.BoardLemmas.{board_same, place_cmp_eq, place_same}
use Rattle.inventory.proofs.ListLemmas.{all_any, all_filter, all_map, all_passes, all_weaker}
use Rattle.bmc_watch.proofs.BusyLemmas.{busy_found}
use Rattle.bmc_watch.proofs.IdleLemmas.{busy_boards}

-- what holds of a place, if there is one
abbrev OnPlace : (Place → Type 0) → Option Place → Type 0
OnPlace Fact None = ⊤
OnPlace Fact (Some place) = Fact place

-- what holds of the places of FRUs holds of those of boards
module _ (Fact : Place → Type 0) where
  hits_on : (reach : ℕ → Bool) (sights : List Sight) (number : ℕ) → AllByRecursion (λ (sight : Sight). Fact sight.place) sights
      → AllByRecursion Fact (hit_places reach sights number)
  hits_on reach sights number all =
      all_map Fact (λ (sight : Sight). sight.place) _
      (all_filter _ (λ (sight : Sight). sight.hit number) (on_buses reach sights) (all_filter _ (λ (sight : Sight). reach sight.place.bus) sights all))

  places_on : (match_one : Bool) (places : List Place) → AllByRecursion Fact places → AllByRecursion (OnPlace Fact) (places_or_none match_one places)
  places_on match_one [] all = (tt, tt)
  places_on true (place ∷ places) all = (all.0, tt)
  places_on false (place ∷ places) all = all_map (OnPlace Fact) Some (place ∷ places) all

  boards_on : (configs : List Config) (sights : List Sight) (number : ℕ) → AllByRecursion (λ (sight : Sight). Fact sight.place) sights
      → AllByRecursion (OnPlace Fact) (boards_in configs sights number)
  unfolding boards_in board_places
  boards_on configs sights number all = by (slice_get configs number)
    where
      found : ℕ → Bool
      found = is_found (rules_of configs) sights

      reach : ℕ → Bool
      reach = is_reached (rules_of configs) sights

      where_found : (is : Bool) (places : List (Option Place)) → AllByRecursion (OnPlace Fact) places → AllByRecursion (OnPlace Fact) (cond is places [])
      where_found true places on = on
      where_found false places on = tt

      by : (config : Option Config) → AllByRecursion (OnPlace Fact) (unwrap_or (option_map (config_places found reach sights number) config) [])
      by None = tt
      by (Some config) = where_found (found number) _ (places_on config.probe.match_one _ (hits_on reach sights number all))

  list_on : (kept boards : ℕ → List (Option Place)) (count : ℕ) → ((number : ℕ) → AllByRecursion (OnPlace Fact) (boards number))
      → AllByRecursion (λ (board : Board). OnPlace Fact board.key.place) (board_list kept (keys_of count boards))
  list_on kept boards count each =
      all_map _ (board_of kept) (keys_of count boards)
      (all_flat_map (λ (key : BoardKey). OnPlace Fact key.place) (λ (number : ℕ). Unit {0}) (λ number. map (key_of number) (boards number))
      (λ number u. all_map _ (key_of number) (boards number) (each number)) (range_with_len 0 count) (all_any _ (λ number. tt) (range_with_len 0 count)))

-- a board has the same fields in two places of fields
abbrev pub IsAlike : (fields others : Place → Option (List Field)) → Board → Type 0
IsAlike fields others board = board_fields fields board ≡ board_fields others board

-- as its place has, if it has one
alike_at : (fields others : Place → Option (List Field)) (board : Board) → OnPlace (λ place. fields place ≡ others place) board.key.place
    → IsAlike fields others board
alike_at fields others board same = by board.key.place same
  where
    by : (place : Option Place) → OnPlace (λ place. fields place ≡ others place) place → option_and_then fields place ≡ option_and_then others place
    by None same = refl
    by (Some place) same = same

-- boards expose the same where they have the same fields
items_alike : (configs : List Config) (fields others : Place → Option (List Field)) (boards : List Board)
    → AllByRecursion (IsAlike fields others) boards → items configs fields boards ≡ items configs others boards
unfolding items
items_alike configs fields others [] alike = refl
items_alike configs fields others (board ∷ boards) alike =
    ap₂ (λ (first later : List _). first ++ later)
    (ap (λ (fields : Option (List Field)). rendered_items board fields (exposes_of configs board.key.config)) alike.0)
    (items_alike configs fields others boards alike.1)

-- each entry is found at its place
abbrev pub AreByPlace : List Entry → Type 0
AreByPlace entries = IsStrictlySortedBy place_cmp (map (λ (entry : Entry). entry.place) entries)

found_each : (entries : List Entry) → AreByPlace entries → AllByRecursion (λ (each : Entry). find (is_entry_at each.place) entries ≡ Some each) entries
unfolding IsStrictlySortedBy
found_each [] order = tt
found_each (entry ∷ entries) order = (here, behind entries order.0 (found_each entries order.1))
  where
    here : cond (is_entry_at entry.place entry) (Some entry) (find (is_entry_at entry.place) entries) ≡ Some entry
    here = ap (λ (order : Ordering). cond (is_eq order) (Some entry) (find (is_entry_at entry.place) entries)) (tied_itself place_total entry.place)

    behind : (later : List Entry) → AllByRecursion (λ (place : Place). place_cmp entry.place place ≡ Less) (map (λ (each : Entry). each.place) later)
        → AllByRecursion (λ (each : Entry). find (is_entry_at each.place) entries ≡ Some each) later
        → AllByRecursion (λ (each : Entry). cond (is_entry_at each.place entry) (Some entry) (find (is_entry_at each.place) entries) ≡ Some each) later
    behind [] after found = tt
    behind (each ∷ later) after found = (
      ap (λ (order : Ordering). cond (is_eq order) (Some entry) (find (is_entry_at each.place) entries))
          (place_total.antisymm each.place entry.place ∙ ap ordering_reverse after.0) ∙ found.0,
      behind later after.1 found.1,
    )

-- each board has the same fields among the busy FRUs as among all
pub busy_alike : (configs : List Config) (kept : ℕ → List (Option Place)) (count : ℕ) (entries : List Entry) → AreByPlace entries
    → AllByRecursion (IsAlike (entry_fields (busy entries)) (entry_fields entries))
    (board_list kept (keys_of count (boards_in configs (map entry_sight entries))))
busy_alike configs kept count entries order =
    all_weaker _ _ (alike_at (entry_fields (busy entries)) (entry_fields entries)) _
    (list_on Same kept (boards_in configs (map entry_sight entries)) count (λ number.
    subst (AllByRecursion (OnPlace Same)) (busy_boards configs entries number)
    (boards_on Same configs (map entry_sight (busy entries)) number (all_map _ entry_sight (busy entries) each))))
  where
    Same : Place → Type 0
    Same place = entry_fields (busy entries) place ≡ entry_fields entries place

    each : AllByRecursion (λ (entry : Entry). Same entry.place) (busy entries)
    each =
        both (busy entries) (all_filter _ (λ (entry : Entry). not (is_idle entry)) entries (found_each entries order))
        (all_passes (λ (entry : Entry). not (is_idle entry)) entries)
      where
        same : (entry : Entry) → find (is_entry_at entry.place) entries ≡ Some entry → not (is_idle entry) ≡ true → Same entry.place
        same entry found works =
            ap (option_map (λ (entry : Entry). entry.fru))
            (busy_found entry.place entry entries found (not_true (is_idle entry) works) ∙ sym found)
          where
            not_true : (idle : Bool) → not idle ≡ true → idle ≡ false
            not_true true is = absurd (cc)
            not_true false is = refl

        both : (some : List Entry) → AllByRecursion (λ (entry : Entry). find (is_entry_at entry.place) entries ≡ Some entry) some
            → AllByRecursion (λ (entry : Entry). not (is_idle entry) ≡ true) some → AllByRecursion (λ (entry : Entry). Same entry.place) some
        both [] found works = tt
        both (entry ∷ some) found works = (same entry found.0 works.0, both some found.1 works.1)

-- so the busy FRUs expose what all do
pub busy_items : (configs : List Config) (kept : ℕ → List (Option Place)) (count : ℕ) (entries : List Entry) → AreByPlace entries
    → items configs (entry_fields (busy entries)) (board_list kept (keys_of count (boards_in configs (map entry_sight entries))))
    ≡ items configs (entry_fields entries) (board_list kept (keys_of count (boards_in configs (map entry_sight entries))))
busy_items configs kept count entries order =
    items_alike configs (entry_fields (busy entries)) (entry_fields entries) _ (busy_alike configs kept count entries order)

-- ---- where one FRU comes or goes

-- what holds of each board holds of one among them
of_board : (Fact : Option Place → Type 0) (boards : List (Option Place)) (board : Option Place) → AllByRecursion Fact boards
    → has_board boards board ≡ true → Fact board
of_board Fact [] board facts has = absurd (cc)
of_board Fact (first ∷ boards) board facts has =
    elim (or_cases (option_eq place_eq board first) (has_board boards board) has) [
      | inl same ↦ subst Fact (sym (board_same board first same)) facts.0
      | inr later ↦ of_board Fact boards board facts.1 later
    ]

module _ (configs : List Config) (entry : Entry) (fewer more : List Entry)
    (among : IsAmong entry (busy fewer) (busy more)) (apart : AllByRecursion (λ (each : Entry). is_entry_at each.place entry ≡ false) (busy fewer)) where
  find_skip : (place : Place) (front back : List Entry) → is_entry_at place entry ≡ false
      → find (is_entry_at place) (front ++ entry ∷ back) ≡ find (is_entry_at place) (front ++ back)
  find_skip place [] back away = ap (λ (here : Bool). cond here (Some entry) (find (is_entry_at place) back)) away
  find_skip place (first ∷ front) back away =
      ap (λ (later : Option Entry). cond (is_entry_at place first) (Some first) later) (find_skip place front back away)

  abbrev Same : Place → Type 0
  Same place = entry_fields (busy more) place ≡ entry_fields (busy fewer) place

  all_alike : (some : List Entry) → AllByRecursion (λ (each : Entry). is_entry_at each.place entry ≡ false) some
      → AllByRecursion (λ (each : Entry). Same each.place) some
  all_alike [] away = tt
  all_alike (each ∷ some) away = (
    ap (option_map (λ (entry : Entry). entry.fru)) (ap (find (is_entry_at each.place)) among.with
        ∙ find_skip each.place among.front among.back away.0 ∙ ap (find (is_entry_at each.place)) (sym among.without)),
    all_alike some away.1,
  )

  -- a board that is there without it has the same fields
  pub fields_apart : (number : ℕ) (place : Option Place) → has_board (boards_in configs (map entry_sight fewer) number) place ≡ true
      → option_and_then (entry_fields (busy more)) place ≡ option_and_then (entry_fields (busy fewer)) place
  fields_apart number place has =
      fields_at place (of_board (OnPlace Same) (boards_in configs (map entry_sight fewer) number) place
      (subst (AllByRecursion (OnPlace Same)) (busy_boards configs fewer number)
      (boards_on Same configs (map entry_sight (busy fewer)) number (all_map _ entry_sight (busy fewer) (all_alike (busy fewer) apart)))) has)
    where
      fields_at : (place : Option Place) → OnPlace Same place
          → option_and_then (entry_fields (busy more)) place ≡ option_and_then (entry_fields (busy fewer)) place
      fields_at None same = refl
      fields_at (Some place) same = same

eq_reverse : (order : Ordering) → is_eq (ordering_reverse order) ≡ is_eq order
eq_reverse Less = refl
eq_reverse Equal = refl
eq_reverse Greater = refl

-- no FRU is at the place of one that comes
pub free_apart : (entry : Entry) (entries : List Entry) → holds_place entries entry.place ≡ false
    → AllByRecursion (λ (each : Entry). is_entry_at each.place entry ≡ false) entries
free_apart entry [] free = tt
free_apart entry (each ∷ entries) free =
    by (is_entry_at entry.place each) refl free (free_apart entry entries)
  where
    by : (here : Bool) → is_entry_at entry.place each ≡ here → (here || holds_place entries entry.place) ≡ false
        → (holds_place entries entry.place ≡ false → AllByRecursion (λ (each : Entry). is_entry_at each.place entry ≡ false) entries)
        → AllByRecursion (λ (each : Entry). is_entry_at each.place entry ≡ false) (each ∷ entries)
    by true is free later = absurd (cc)
    by false is free later =
        (ap is_eq (place_total.antisymm each.place entry.place) ∙ eq_reverse (place_cmp entry.place each.place) ∙ is, later free)

-- nor among the busy ones
pub busy_apart : (entry : Entry) (entries : List Entry) → AllByRecursion (λ (each : Entry). is_entry_at each.place entry ≡ false) entries
    → AllByRecursion (λ (each : Entry). is_entry_at each.place entry ≡ false) (busy entries)
busy_apart entry entries apart = all_filter _ (λ (entry : Entry). not (is_idle entry)) entries apart

found_at : (place : Place) (entry : Entry) (entries : List Entry) → find (is_entry_at place) entries ≡ Some entry → is_entry_at place entry ≡ true
found_at place entry [] found = absurd (cc)
found_at place entry (each ∷ entries) found = by (is_entry_at place each) refl found (found_at place entry entries)
  where
    by : (here : Bool) → is_entry_at place each ≡ here → cond here (Some each) (find (is_entry_at place) entries) ≡ Some entry
        → (find (is_entry_at place) entries ≡ Some entry → is_entry_at place entry ≡ true) → is_entry_at place entry ≡ true
    by true is found later = let same : each ≡ entry = cc in ap (is_entry_at place) (sym same) ∙ is
    by false is found later = later found

-- no FRU is left at the place of one that goes
pub gone_apart : (place : Place) (entry : Entry) (entries : List Entry) → find (is_entry_at place) entries ≡ Some entry
    → AllByRecursion (λ (each : Entry). is_entry_at each.place entry ≡ false) (without_entry place entries)
gone_apart place entry entries found = left entries
  where
    same : place ≡ entry.place
    same = place_same place entry.place (sym (place_cmp_eq place entry.place) ∙ found_at place entry entries found)

    left : (some : List Entry) → AllByRecursion (λ (each : Entry). is_entry_at each.place entry ≡ false) (without_entry place some)
    left [] = tt
    left (each ∷ some) = by (is_entry_at place each) refl (left some)
      where
        by : (here : Bool) → is_entry_at place each ≡ here
            → AllByRecursion (λ (each : Entry). is_entry_at each.place entry ≡ false) (without_entry place some)
            → AllByRecursion (λ (each : Entry). is_entry_at each.place entry ≡ false) (cond (not here) (each ∷ without_entry place some)
            (without_entry place some))
        by true is rest = rest
        by false is rest = (
          ap is_eq (place_total.antisymm each.place entry.place) ∙ eq_reverse (place_cmp entry.place each.place)
              ∙ ap (λ (place : Place). is_eq (place_cmp place each.place)) (sym same) ∙ is,
          rest,
        )
