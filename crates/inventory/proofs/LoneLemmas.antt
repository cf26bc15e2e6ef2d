-- The boards of a configuration where one FRU alone comes or goes.
use Rattle.std.proofs.Common.{◌≡◌, ◌∙◌, ℕ, suc, ◌+◌, ◌<◌, ◌≤◌, Bool, true, false, not, cond, ◌&&◌, ◌||◌, List, [], ◌∷◌, ◌++◌, length, map, take, drop, get_or}
use Rattle.std.proofs.Common.{slice_get, Option, Some, None, refl, sym, ap, ap₂, subst, arith, inl, inr, length-append, option_to_list}
use Rattle.std.specs.Global.{Box}
use Rattle.std.specs.Option.{option_eq, is_some}
use Rattle.std.specs.List.{list_all, AllByRecursion}
use Rattle.std.proofs.lemmas.Bool.{and_parts, or_cases, or_right}
use Rattle.std.proofs.lemmas.List.{map-append, take-append-drop}
use Rattle.std.proofs.Math.Seq.{drop-cons}
use Rattle.std.proofs.lemmas.List.Folds.{list_any-append}
use Rattle.bmc_base.specs.Places.{Place, place_eq}
use Rattle.probe_lang.specs.declared.rows.Entry.{Entry}
use Rattle.probe_lang.specs.Sights.{Sight, entry_sight, has_config}
use Rattle.probe_lang.specs.Presents.{unboxed, are_by_place}
use Rattle.found_set.specs.Marks.{AreMarked}
use Rattle.match_rows.proofs.PlacesLemmas.{is_before, before_differs, not_behind}
use Rattle.inventory.specs.Boards.{has_board, hit_places, places_or_none}
use Rattle.inventory.specs.Indexes.{except}
use Rattle.inventory.specs.Differences.{Moment, key_of}
use Rattle.inventory.specs.Moments.{found_boards, left, AreSeenAlike, AreAllSeenAlike, IsAmong, IsApartBy, IsBeside}
use Rattle.inventory.specs.declared.board.BoardKey.{BoardKey}
use Rattle.inventory.proofs.BoardLemmas.{except_none, pass_all, place_cmp_eq, board_swap}
use Rattle.inventory.proofs.IndexesLemmas.{has_front}
use Rattle.inventory.proofs.DifferencesLemmas.{keys_append}
use Rattle.inventory.proofs.ListLemmas.{all_append, all_filter, all_map, all_weaker}
use Rattle.inventory.proofs.MomentsLemmas.{alike_places, places_append, places_one}

-- ---- one board more in a list

has_back : (front back : List (Option Place)) (place : Option Place) → has_board back place ≡ true → has_board (front ++ back) place ≡ true
has_back front back place has = list_any-append (option_eq place_eq place) front back ∙ or_right _ _ has

none_of : (number : ℕ) (here there : List (Option Place)) → ((place : Option Place) → has_board here place ≡ true → has_board there place ≡ true)
    → left number here there ≡ []
none_of number here there each = ap (map (key_of number)) (except_none (has_board there) here (pass_all (has_board there) here each))

module _ (number : ℕ) (board : Option Place) (front back : List (Option Place)) where
  less_left : left number (front ++ back) (front ++ board ∷ back) ≡ []
  less_left = none_of number (front ++ back) (front ++ board ∷ back) (λ place has.
      elim (or_cases (has_board front place) (has_board back place) (sym (list_any-append (option_eq place_eq place) front back) ∙ has)) [
        | inl fore ↦ has_front front (board ∷ back) place fore
        | inr aft ↦ has_back front (board ∷ back) place (or_right _ _ aft)
      ])

  more_left : has_board (front ++ back) board ≡ false → left number (front ++ board ∷ back) (front ++ back) ≡ key_of number board ∷ []
  more_left absent =
      keys_append number (front ++ back) front (board ∷ back)
      ∙ ap₂ (λ (one other : List BoardKey). one ++ other) (none_of number front (front ++ back) (has_front front back))
      (ap (λ (has : Bool). map (key_of number) (cond (not has) (board ∷ except (has_board (front ++ back)) back) (except (has_board (front ++ back)) back)))
      absent
      ∙ ap (λ (keys : List BoardKey). key_of number board ∷ keys) (none_of number back (front ++ back) (has_back front back)))

-- ---- a place beside others

apart_from : (place : Place) (places : List Place) → AllByRecursion (λ (each : Place). place_eq place each ≡ false) places
    → has_board (map Some places) (Some place) ≡ false
apart_from place [] apart = refl
apart_from place (first ∷ places) apart = ap₂ (λ (one other : Bool). one || other) apart.0 (apart_from place places apart.1)

differs_before : (place other : Place) → is_before other place ≡ true → place_eq place other ≡ false
differs_before place other before = sym (place_cmp_eq place other) ∙ before_differs place other before

eq_swap : (place other : Place) → place_eq other place ≡ false → place_eq place other ≡ false
eq_swap place other differ = board_swap (Some place) (Some other) ∙ differ

differs_behind : (place other : Place) → is_before place other ≡ true → place_eq place other ≡ false
differs_behind place other behind = eq_swap place other (differs_before other place behind)

some_of : (places : List Place) (place : Place) → Some place ≡ slice_get places 0 → places_or_none false places ≡ map Some places
some_of [] place is = absurd (cc)
some_of (first ∷ places) place is = refl

some_among : (place : Place) (front back : List Place)
    → places_or_none false (front ++ place ∷ back) ≡ map Some front ++ Some place ∷ map Some back
some_among place [] back = refl
some_among place (first ∷ front) back = ap (λ (places : List (Option Place)). Some first ∷ places) (map-append Some front (place ∷ back))

-- where a FRU comes at a place that has these hits before it and those behind it
module _ (number : ℕ) (place : Place) (front back : List Place) (beside : IsBeside place front back) where
  absent : has_board (map Some front ++ map Some back) (Some place) ≡ false
  absent =
      ap (λ (boards : List (Option Place)). has_board boards (Some place)) (sym (map-append Some front back))
      ∙ apart_from place (front ++ back) (all_append _ front back
      (all_weaker _ _ (λ (each : Place) before. differs_before place each before) front beside.before)
      (all_weaker _ _ (λ (each : Place) behind. differs_behind place each behind) back beside.behind))

  module _ (other : Place) (is : Some other ≡ slice_get (front ++ back) 0) where
    others : places_or_none false (front ++ back) ≡ map Some front ++ map Some back
    others = some_of (front ++ back) other is ∙ map-append Some front back

    -- it comes beside other boards
    pub all_gone : [] ≡ left number (places_or_none false (front ++ back)) (places_or_none false (front ++ place ∷ back))
    all_gone = sym (ap₂ (left number) others (some_among place front back) ∙ less_left number (Some place) (map Some front) (map Some back))

    pub all_new : key_of number (Some place) ∷ [] ≡ left number (places_or_none false (front ++ place ∷ back)) (places_or_none false (front ++ back))
    all_new = sym (ap₂ (left number) (some_among place front back) others ∙ more_left number (Some place) (map Some front) (map Some back) absent)

-- no other hit
pub none_gone : (match_one : Bool) (number : ℕ) (place : Place) (front back : List Place) → None ≡ slice_get (front ++ back) 0
    → key_of number None ∷ [] ≡ left number (places_or_none match_one (front ++ back)) (places_or_none match_one (front ++ place ∷ back))
none_gone true number place [] [] is = refl
none_gone false number place [] [] is = refl
none_gone match_one number place [] (other ∷ back) is = absurd (cc)
none_gone match_one number place (other ∷ front) back is = absurd (cc)

pub none_new : (match_one : Bool) (number : ℕ) (place : Place) (front back : List Place) → None ≡ slice_get (front ++ back) 0
    → key_of number (Some place) ∷ [] ≡ left number (places_or_none match_one (front ++ place ∷ back)) (places_or_none match_one (front ++ back))
none_new true number place [] [] is = refl
none_new false number place [] [] is = refl
none_new match_one number place [] (other ∷ back) is = absurd (cc)
none_new match_one number place (other ∷ front) back is = absurd (cc)

one_left : (number : ℕ) (place other : Place) → place_eq place other ≡ false
    → key_of number (Some place) ∷ [] ≡ left number (Some place ∷ []) (Some other ∷ [])
one_left number place other differ =
    ap (λ (same : Bool). map (key_of number) (cond (not (same || false)) (Some place ∷ []) [])) (sym differ)

same_left : (number : ℕ) (board : Option Place) → [] ≡ left number (board ∷ []) (board ∷ [])
same_left number board = sym (none_of number (board ∷ []) (board ∷ []) (λ place has. has))

-- one alone counts, and the first other is behind the place
pub first_gone : (number : ℕ) (place : Place) (front back : List Place) (other : Place) → IsBeside place front back → Some other ≡ slice_get (front ++ back) 0
    → is_before place other ≡ true
    → key_of number (Some other) ∷ [] ≡ left number (places_or_none true (front ++ back)) (places_or_none true (front ++ place ∷ back))
first_gone number place [] [] other beside is behind = absurd (cc)
first_gone number place [] (first ∷ back) other beside is behind =
    let same : first ≡ other = cc in
    one_left number other place (differs_before other place behind) ∙ ap (λ (it : Place). left number (Some it ∷ []) (Some place ∷ [])) (sym same)
first_gone number place (first ∷ front) back other beside is behind =
    let same : first ≡ other = cc in
    let late : is_before place other ≡ false = not_behind place other (ap (λ (it : Place). is_before it place) (sym same) ∙ beside.before.0) in
    absurd (cc)

pub first_new : (number : ℕ) (place : Place) (front back : List Place) (other : Place) → IsBeside place front back → Some other ≡ slice_get (front ++ back) 0
    → is_before place other ≡ true
    → key_of number (Some place) ∷ [] ≡ left number (places_or_none true (front ++ place ∷ back)) (places_or_none true (front ++ back))
first_new number place [] [] other beside is behind = absurd (cc)
first_new number place [] (first ∷ back) other beside is behind =
    let same : first ≡ other = cc in
    one_left number place other (differs_behind place other behind) ∙ ap (λ (it : Place). left number (Some place ∷ []) (Some it ∷ [])) (sym same)
first_new number place (first ∷ front) back other beside is behind =
    let same : first ≡ other = cc in
    let late : is_before place other ≡ false = not_behind place other (ap (λ (it : Place). is_before it place) (sym same) ∙ beside.before.0) in
    absurd (cc)

-- one alone counts, and the first other is before the place
pub later_gone : (number : ℕ) (place : Place) (front back : List Place) (other : Place) → IsBeside place front back → Some other ≡ slice_get (front ++ back) 0
    → is_before place other ≡ false
    → [] ≡ left number (places_or_none true (front ++ back)) (places_or_none true (front ++ place ∷ back))
later_gone number place [] [] other beside is before = absurd (cc)
later_gone number place [] (first ∷ back) other beside is before =
    let same : first ≡ other = cc in
    let behind : is_before place other ≡ true = ap (is_before place) (sym same) ∙ beside.behind.0 in
    absurd (cc)
later_gone number place (first ∷ front) back other beside is before = same_left number (Some first)

pub later_new : (number : ℕ) (place : Place) (front back : List Place) (other : Place) → IsBeside place front back → Some other ≡ slice_get (front ++ back) 0
    → is_before place other ≡ false
    → [] ≡ left number (places_or_none true (front ++ place ∷ back)) (places_or_none true (front ++ back))
later_new number place [] [] other beside is before = absurd (cc)
later_new number place [] (first ∷ back) other beside is before =
    let same : first ≡ other = cc in
    let behind : is_before place other ≡ true = ap (is_before place) (sym same) ∙ beside.behind.0 in
    absurd (cc)
later_new number place (first ∷ front) back other beside is before = same_left number (Some first)

-- ---- entries

entries_beside : (place : Place) (front back : List Entry) (entry : Entry) → are_by_place (front ++ entry ∷ back) ≡ true
    → AllByRecursion (λ (each : Entry). is_before each.place entry.place ≡ true) front
entries_beside place [] back entry order = tt
entries_beside place (first ∷ front) back entry order =
    (among front (and_parts _ _ order).0, entries_beside place front back entry (and_parts _ _ order).1)
  where
    among : (front : List Entry) → list_all (λ (later : Entry). is_before first.place later.place) (front ++ entry ∷ back) ≡ true
        → is_before first.place entry.place ≡ true
    among [] all = (and_parts _ _ all).0
    among (next ∷ front) all = among front (and_parts _ _ all).1

entries_behind : (front back : List Entry) (entry : Entry) → are_by_place (front ++ entry ∷ back) ≡ true
    → AllByRecursion (λ (each : Entry). is_before entry.place each.place ≡ true) back
entries_behind [] back entry order = each back (and_parts _ _ order).0
  where
    each : (back : List Entry) → list_all (λ (later : Entry). is_before entry.place later.place) back ≡ true
        → AllByRecursion (λ (each : Entry). is_before entry.place each.place ≡ true) back
    each [] all = tt
    each (first ∷ back) all = ((and_parts _ _ all).0, each back (and_parts _ _ all).1)
entries_behind (first ∷ front) back entry order = entries_behind front back entry (and_parts _ _ order).1

hits_all : (Fact : Place → Type 0) (reach : ℕ → Bool) (number : ℕ) (entries : List Entry) → AllByRecursion (λ (each : Entry). Fact each.place) entries
    → AllByRecursion Fact (hit_places reach (map entry_sight entries) number)
hits_all Fact reach number entries facts =
    all_map Fact (λ (sight : Sight). sight.place) _
    (all_filter (λ (sight : Sight). Fact sight.place) (λ (sight : Sight). sight.hit number) _
    (all_filter (λ (sight : Sight). Fact sight.place) (λ (sight : Sight). reach sight.place.bus) _
    (all_map (λ (sight : Sight). Fact sight.place) entry_sight entries facts)))

-- the hits of the moment with fewer entries, those of the other, and that they stand beside the place
module _ (number : ℕ) (match_one : Bool) (entry : Entry) (fewer more : Moment) (among : IsAmong entry fewer.entries more.entries)
    (alike : AreAllSeenAlike fewer more) (reach reach_more : ℕ → Bool) (marked : AreMarked fewer.facts.reach reach)
    (marked_more : AreMarked more.facts.reach reach_more) where
  abbrev pub hits_front : List Place
  hits_front = hit_places reach_more (map entry_sight among.front) number

  abbrev pub hits_back : List Place
  hits_back = hit_places reach_more (map entry_sight among.back) number

  pub fewer_hits : hit_places reach (map entry_sight fewer.entries) number ≡ hits_front ++ hits_back
  fewer_hits =
      alike_places reach reach_more number fewer.entries (alike reach reach_more marked marked_more)
      ∙ ap (λ (entries : List Entry). hit_places reach_more (map entry_sight entries) number) among.without
      ∙ places_append reach_more number among.front among.back

  more_hits : hit_places reach_more (map entry_sight more.entries) number
      ≡ hits_front ++ cond (reach_more entry.place.bus && has_config entry.hits number) (entry.place ∷ hits_back) hits_back
  more_hits =
      ap (λ (entries : List Entry). hit_places reach_more (map entry_sight entries) number) among.with
      ∙ places_append reach_more number among.front (entry ∷ among.back)
      ∙ ap (λ (places : List Place). hits_front ++ places) (places_one reach_more number entry among.back)

  pub hits_beside : are_by_place more.entries ≡ true → IsBeside entry.place hits_front hits_back
  hits_beside order =
      let here : are_by_place (among.front ++ entry ∷ among.back) ≡ true = ap are_by_place (sym among.with) ∙ order in
      record {
        before = hits_all (λ (each : Place). is_before each entry.place ≡ true) reach_more number among.front
            (entries_beside entry.place among.front among.back entry here);
        behind = hits_all (λ (each : Place). is_before entry.place each ≡ true) reach_more number among.back
            (entries_behind among.front among.back entry here);
      }

  pub fewer_boards : found_boards match_one reach fewer number ≡ places_or_none match_one (hits_front ++ hits_back)
  fewer_boards = ap (places_or_none match_one) fewer_hits

  pub more_boards : (reach_more entry.place.bus && has_config entry.hits number) ≡ true
      → found_boards match_one reach_more more number ≡ places_or_none match_one (hits_front ++ entry.place ∷ hits_back)
  more_boards seen =
      ap (places_or_none match_one) (more_hits ∙ ap (λ (sees : Bool). hits_front ++ cond sees (entry.place ∷ hits_back) hits_back) seen)

  -- one that is not seen changes nothing
  unseen : (reach_more entry.place.bus && has_config entry.hits number) ≡ false
      → found_boards match_one reach fewer number ≡ found_boards match_one reach_more more number
  unseen none =
      fewer_boards ∙ sym (ap (places_or_none match_one)
      (more_hits ∙ ap (λ (sees : Bool). hits_front ++ cond sees (entry.place ∷ hits_back) hits_back) none))

  pub unseen_gone : (reach_more entry.place.bus && has_config entry.hits number) ≡ false
      → [] ≡ left number (found_boards match_one reach fewer number) (found_boards match_one reach_more more number)
  unseen_gone none =
      sym (none_of number _ _ (λ place has. ap (λ (boards : List (Option Place)). has_board boards place) (sym (unseen none)) ∙ has))

  pub unseen_new : (reach_more entry.place.bus && has_config entry.hits number) ≡ false
      → [] ≡ left number (found_boards match_one reach_more more number) (found_boards match_one reach fewer number)
  unseen_new none =
      sym (none_of number _ _ (λ place has. ap (λ (boards : List (Option Place)). has_board boards place) (unseen none) ∙ has))

  pub seen_gone : (key : Option BoardKey) → (reach_more entry.place.bus && has_config entry.hits number) ≡ true → option_to_list key
      ≡ left number (places_or_none match_one (hits_front ++ hits_back)) (places_or_none match_one (hits_front ++ entry.place ∷ hits_back))
      → option_to_list key ≡ left number (found_boards match_one reach fewer number) (found_boards match_one reach_more more number)
  seen_gone key seen e = e ∙ sym (ap₂ (left number) fewer_boards (more_boards seen))

  pub seen_new : (key : Option BoardKey) → (reach_more entry.place.bus && has_config entry.hits number) ≡ true → option_to_list key
      ≡ left number (places_or_none match_one (hits_front ++ entry.place ∷ hits_back)) (places_or_none match_one (hits_front ++ hits_back))
      → option_to_list key ≡ left number (found_boards match_one reach_more more number) (found_boards match_one reach fewer number)
  seen_new key seen e = e ∙ sym (ap₂ (left number) (more_boards seen) fewer_boards)

-- ---- which comes and which goes

among_length : (entry : Entry) (others entries : List Entry) → IsAmong entry others entries → length entries ≡ length others + 1
among_length entry others entries among =
    omega (arith, ap length among.with, ap length among.without, length-append among.front (entry ∷ among.back), length-append among.front among.back)

pub comes_among : (entry : Entry) (before after : List Entry) (n m : ℕ) → IsApartBy entry before after → n ≡ length before → m ≡ length after → n < m
    → IsAmong entry before after
comes_among entry before after n m apart first second less =
    elim apart [
      | inl comes ↦ comes
      | inr goes ↦ absurd (omega (arith, less, first, second, among_length entry after before goes))
    ]

pub goes_among : (entry : Entry) (before after : List Entry) (n m : ℕ) → IsApartBy entry before after → n ≡ length before → m ≡ length after → m ≤ n
    → IsAmong entry after before
goes_among entry before after n m apart first second less =
    elim apart [
      | inl comes ↦ absurd (omega (arith, less, first, second, among_length entry before after comes))
      | inr goes ↦ goes
    ]

-- what is seen alike of all is seen alike of the others, the other way round
pub alike_back : (entry : Entry) (before after : Moment) → IsAmong entry after.entries before.entries → AreAllSeenAlike before after
    → AreAllSeenAlike after before
alike_back entry before after among alike reach_after reach marked_after marked =
    subst (AreSeenAlike reach_after reach) (sym among.without)
    (other among.front (subst (AreSeenAlike reach reach_after) among.with (alike reach reach_after marked marked_after)))
  where
    turned : (entries : List Entry) → AreSeenAlike reach reach_after entries → AreSeenAlike reach_after reach entries
    turned [] all = tt
    turned (first ∷ entries) all = (sym all.0, turned entries all.1)

    other : (front : List Entry) → AreSeenAlike reach reach_after (front ++ entry ∷ among.back) → AreSeenAlike reach_after reach (front ++ among.back)
    other [] all = turned among.back all.1
    other (first ∷ front) all = (sym all.0, other front all.1)

-- ---- the first hit

pub first_in : (reach : ℕ → Bool) (number : ℕ) (front back : List Entry) (place : Option Place)
    → place ≡ slice_get (hit_places reach (map entry_sight front) number) 0 → is_some place ≡ true
    → place ≡ slice_get (hit_places reach (map entry_sight (front ++ back)) number) 0
first_in reach number front back place is there =
    is ∙ by (hit_places reach (map entry_sight front) number) (ap is_some (sym is) ∙ there)
    ∙ ap (λ (places : List Place). slice_get places 0) (sym (places_append reach number front back))
  where
    by : (places : List Place) → is_some (slice_get places 0) ≡ true
        → slice_get places 0 ≡ slice_get (places ++ hit_places reach (map entry_sight back) number) 0
    by [] there = absurd (cc)
    by (first ∷ places) there = refl

pub first_past : (reach : ℕ → Bool) (number : ℕ) (front back : List Entry) (missing place : Option Place)
    → missing ≡ slice_get (hit_places reach (map entry_sight front) number) 0 → is_some missing ≡ false
    → place ≡ slice_get (hit_places reach (map entry_sight back) number) 0
    → place ≡ slice_get (hit_places reach (map entry_sight (front ++ back)) number) 0
first_past reach number front back missing place is absent there =
    there ∙ by (hit_places reach (map entry_sight front) number) (ap is_some (sym is) ∙ absent)
    ∙ ap (λ (places : List Place). slice_get places 0) (sym (places_append reach number front back))
  where
    by : (places : List Place) → is_some (slice_get places 0) ≡ false
        → slice_get (hit_places reach (map entry_sight back) number) 0 ≡ slice_get (places ++ hit_places reach (map entry_sight back) number) 0
    by [] absent = refl
    by (first ∷ places) absent = absurd (cc)

pub none_more : (reach : ℕ → Bool) (number : ℕ) (front : List Entry) (entry : Entry) → hit_places reach (map entry_sight front) number ≡ []
    → (reach entry.place.bus && has_config entry.hits number) ≡ false → hit_places reach (map entry_sight (front ++ entry ∷ [])) number ≡ []
none_more reach number front entry none unseen =
    places_append reach number front (entry ∷ [])
    ∙ ap₂ (λ (one other : List Place). one ++ other) none (places_one reach number entry []
    ∙ ap (λ (sees : Bool). cond sees (entry.place ∷ []) []) unseen)

pub first_is : (reach : ℕ → Bool) (number : ℕ) (front : List Entry) (entry : Entry) (back : List Entry)
    → hit_places reach (map entry_sight front) number ≡ [] → (reach entry.place.bus && has_config entry.hits number) ≡ true
    → Some entry.place ≡ slice_get (hit_places reach (map entry_sight (front ++ entry ∷ back)) number) 0
first_is reach number front entry back none seen =
    sym (ap (λ (places : List Place). slice_get places 0) (places_append reach number front (entry ∷ back)
    ∙ ap₂ (λ (one other : List Place). one ++ other) none (places_one reach number entry back
    ∙ ap (λ (sees : Bool). cond sees (entry.place ∷ hit_places reach (map entry_sight back) number) (hit_places reach (map entry_sight back) number)) seen)))

pub unboxed_split : (boxes : List (Box Entry)) (i : ℕ) (box : Box Entry) (entry : Entry) → i < length boxes → box ≡ get_or boxes i box → entry ≡ box.value
    → unboxed boxes ≡ unboxed (take i boxes) ++ entry ∷ unboxed (drop (suc i) boxes)
unboxed_split boxes i box entry within is holds =
    ap unboxed (sym (take-append-drop i boxes)) ∙ map-append (λ (each : Box Entry). each.value) (take i boxes) (drop i boxes)
    ∙ ap (λ (rest : List Entry). unboxed (take i boxes) ++ rest) (ap unboxed (drop-cons boxes i box within)
    ∙ ap (λ (first : Entry). first ∷ unboxed (drop (suc i) boxes)) (ap (λ (each : Box Entry). each.value) (sym is) ∙ sym holds))
