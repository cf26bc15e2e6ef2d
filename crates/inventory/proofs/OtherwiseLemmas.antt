-- The boards of a configuration that go and come, by the FRUs that are seen otherwise.
use Rattle.std.proofs.Common.{◌≡◌, ℕ, ◌+◌, ◌<◌, List, [], ◌∷◌, ◌++◌, Bool, true, false, not, cond, ◌&&◌, ◌||◌, Option, Some}
use Rattle.std.proofs.Common.{map, filter, take, length, get_or, refl, sym, ap, ap₂, ◌∙◌, append_assoc, subst, true≢false, inl, inr}
use Rattle.std.specs.Prelude.{slice_get, IsSome}
use Rattle.std.specs.List.Sorted.{IsStrictlySortedBy}
use Rattle.std.specs.Option.{option_cmp}
use Rattle.std.specs.Borrow.{Bor}
use Rattle.std.specs.Global.{Box}
use mathlib.Core.Bool.{beq}
use Rattle.std.proofs.lemmas.List.{map-append, take_more}
use Rattle.std.proofs.lemmas.List.Elements.{filter-append}
use Rattle.bmc_base.specs.Places.{Place, place_cmp, place_eq}
use Rattle.probe_lang.specs.declared.rows.Entry.{Entry}
use Rattle.probe_lang.specs.Presents.{unboxed, are_by_place}
use Rattle.probe_lang.specs.Sights.{Sight, entry_sight, has_config}
use Rattle.inventory.specs.Boards.{has_board, hit_places, places_or_none}
use Rattle.inventory.specs.Differences.{Moment, IsMarkedBy, key_of}
use Rattle.inventory.specs.Indexes.{except}
use Rattle.inventory.specs.Moments.{boards_now, entries_of, hits_in, is_otherwise, left, otherwise_of}
use Rattle.inventory.specs.Moments.{AreApart, AreAscending, HasBoth, IsAmong, IsApartBy}
use Rattle.inventory.specs.declared.apart.Otherwise.{Otherwise}
use Rattle.inventory.proofs.BoardLemmas.{place_itself, place_same}
use Rattle.inventory.proofs.BoardsLemmas.{hits_ascend}
use Rattle.inventory.proofs.ListLemmas.{all_any, ascending_filter, ascending_map, filter_alike}
use Rattle.inventory.proofs.MergeLemmas.{entries_ascend}
use Rattle.inventory.proofs.MomentsLemmas.{boards_found, hits_append, places_append, places_one, unboxed_more}

-- ---- places that pass a test

module _ (keep : Place → Bool) where
  -- a place that passes is among the others that pass as among all
  has_kept : (places : List Place) (place : Place) → keep place ≡ true
      → has_board (map Some (filter keep places)) (Some place) ≡ has_board (map Some places) (Some place)
  has_kept [] place passes = refl
  has_kept (first ∷ places) place passes = by (keep first) refl (has_kept places place passes)
    where
      differ : (same : Bool) → place_eq place first ≡ same → keep first ≡ false → same ≡ false
      differ true same fails = absurd (true≢false (sym passes ∙ ap keep (place_same place first same) ∙ fails))
      differ false same fails = refl

      by : (b : Bool) → keep first ≡ b
          → has_board (map Some (filter keep places)) (Some place) ≡ has_board (map Some places) (Some place)
          → has_board (map Some (cond b (first ∷ filter keep places) (filter keep places))) (Some place)
          ≡ (place_eq place first || has_board (map Some places) (Some place))
      by true is rest = ap (λ (has : Bool). place_eq place first || has) rest
      by false is rest =
          rest
          ∙ ap (λ (same : Bool). same || has_board (map Some places) (Some place)) (sym (differ (place_eq place first) refl is))

  -- some that are here and not there, where all that fails is here and there or in neither
  except_kept : (here there : List Place)
      → ((place : Place) → keep place ≡ false → has_board (map Some here) (Some place) ≡ has_board (map Some there) (Some place))
      → (some : List Place) → ((place : Place) → has_board (map Some some) (Some place) ≡ true → has_board (map Some here) (Some place) ≡ true)
      → except (has_board (map Some there)) (map Some some) ≡ except (has_board (map Some (filter keep there))) (map Some (filter keep some))
  except_kept here there alike [] among = refl
  except_kept here there alike (first ∷ some) among =
      by (keep first) refl (except_kept here there alike some (λ place has. among place (ap (λ (is : Bool). place_eq place first || is) has
      ∙ or_true (place_eq place first))))
    where
      or_true : (b : Bool) → (b || true) ≡ true
      or_true true = refl
      or_true false = refl

      here_too : has_board (map Some here) (Some first) ≡ true
      here_too = among first (ap (λ (same : Bool). same || has_board (map Some some) (Some first)) (place_itself first))

      by : (b : Bool) → keep first ≡ b
          → except (has_board (map Some there)) (map Some some) ≡ except (has_board (map Some (filter keep there))) (map Some (filter keep some))
          → except (has_board (map Some there)) (map Some (first ∷ some))
          ≡ except (has_board (map Some (filter keep there))) (map Some (cond b (first ∷ filter keep some) (filter keep some)))
      by true is rest =
          ap₂ (λ (has : Bool) (boards : List (Option Place)). cond (not has) (Some first ∷ boards) boards) (sym (has_kept there first is)) rest
      by false is rest =
          ap (λ (has : Bool). cond (not has) (Some first ∷ except (has_board (map Some there)) (map Some some))
          (except (has_board (map Some there)) (map Some some))) (sym (alike first is) ∙ here_too)
          ∙ rest

  left_kept : (number : ℕ) (here there : List Place)
      → ((place : Place) → keep place ≡ false → has_board (map Some here) (Some place) ≡ has_board (map Some there) (Some place))
      → left number (map Some here) (map Some there) ≡ left number (map Some (filter keep here)) (map Some (filter keep there))
  left_kept number here there alike = ap (map (key_of number)) (except_kept here there alike here (λ place has. has))

-- ---- the hits that are seen otherwise

module _ (reach reach_after : ℕ → Bool) (changed : Entry) (number : ℕ) where
  abbrev otherwise : Place → Bool
  otherwise = is_otherwise reach reach_after changed.place

  -- of the entries that are seen otherwise
  hits_otherwise : (sees : ℕ → Bool) (entries : List Entry)
      → hit_places sees (map entry_sight (otherwise_of reach reach_after changed.place entries)) number
      ≡ filter otherwise (hit_places sees (map entry_sight entries) number)
  hits_otherwise sees [] = refl
  hits_otherwise sees (entry ∷ entries) = by (otherwise entry.place) refl (hits_otherwise sees entries)
    where
      rest : List Entry
      rest = otherwise_of reach reach_after changed.place entries

      all : List Place
      all = hit_places sees (map entry_sight entries) number

      seen : Bool
      seen = sees entry.place.bus && has_config entry.hits number

      filtered : (b : Bool) → otherwise entry.place ≡ b → (s : Bool)
          → filter otherwise (cond s (entry.place ∷ all) all) ≡ cond (s && b) (entry.place ∷ filter otherwise all) (filter otherwise all)
      filtered b is true = ap (λ (passes : Bool). cond passes (entry.place ∷ filter otherwise all) (filter otherwise all)) is
      filtered b is false = refl

      never : (s : Bool) → cond (s && false) (entry.place ∷ filter otherwise all) (filter otherwise all) ≡ filter otherwise all
      never true = refl
      never false = refl

      ever : (s : Bool) → cond (s && true) (entry.place ∷ filter otherwise all) (filter otherwise all)
          ≡ cond s (entry.place ∷ filter otherwise all) (filter otherwise all)
      ever true = refl
      ever false = refl

      by : (b : Bool) → otherwise entry.place ≡ b → hit_places sees (map entry_sight rest) number ≡ filter otherwise all
          → hit_places sees (map entry_sight (cond b (entry ∷ rest) rest)) number
          ≡ filter otherwise (hit_places sees (map entry_sight (entry ∷ entries)) number)
      by true is others =
          places_one sees number entry rest
          ∙ ap (λ (places : List Place). cond seen (entry.place ∷ places) places) others
          ∙ sym (ap (filter otherwise) (places_one sees number entry entries) ∙ filtered true is seen ∙ ever seen)
      by false is others =
          others
          ∙ sym (ap (filter otherwise) (places_one sees number entry entries) ∙ filtered false is seen ∙ never seen)

  abbrev alike : Place → Bool
  alike place = not (otherwise place)

  -- the others are the same at both moments
  same_reach : (place : Place) → otherwise place ≡ false → reach place.bus ≡ reach_after place.bus
  same_reach place is = by (place_eq place changed.place) (reach place.bus) (reach_after place.bus) is
    where
      by : (b one other : Bool) → (b || not (beq one other)) ≡ false → one ≡ other
      by true one other is = absurd (cc)
      by false true true is = refl
      by false true false is = absurd (cc)
      by false false true is = absurd (cc)
      by false false false is = refl

  hits_alike : (entries : List Entry)
      → filter alike (hit_places reach (map entry_sight entries) number) ≡ filter alike (hit_places reach_after (map entry_sight entries) number)
  hits_alike [] = refl
  hits_alike (entry ∷ entries) =
      ap (filter alike) (places_one reach number entry entries)
      ∙ by (otherwise entry.place) refl (hits_alike entries)
      ∙ sym (ap (filter alike) (places_one reach_after number entry entries))
    where
      one : List Place
      one = hit_places reach (map entry_sight entries) number

      other : List Place
      other = hit_places reach_after (map entry_sight entries) number

      has : Bool
      has = has_config entry.hits number

      dropped : (places : List Place) (s : Bool) → otherwise entry.place ≡ true → filter alike (cond s (entry.place ∷ places) places) ≡ filter alike places
      dropped places true is = ap (λ (passes : Bool). cond (not passes) (entry.place ∷ filter alike places) (filter alike places)) is
      dropped places false is = refl

      same : (s : Bool) → filter alike one ≡ filter alike other
          → filter alike (cond s (entry.place ∷ one) one) ≡ filter alike (cond s (entry.place ∷ other) other)
      same true rest = ap (λ (places : List Place). cond (alike entry.place) (entry.place ∷ places) places) rest
      same false rest = rest

      by : (b : Bool) → otherwise entry.place ≡ b → filter alike one ≡ filter alike other
          → filter alike (cond (reach entry.place.bus && has) (entry.place ∷ one) one)
          ≡ filter alike (cond (reach_after entry.place.bus && has) (entry.place ∷ other) other)
      by true is rest =
          dropped one (reach entry.place.bus && has) is ∙ rest ∙ sym (dropped other (reach_after entry.place.bus && has) is)
      by false is rest =
          same (reach entry.place.bus && has) rest
          ∙ ap (λ (sees : Bool). filter alike (cond (sees && has) (entry.place ∷ other) other)) (same_reach entry.place is)

  -- the one that comes or goes is none of them
  alike_among : (sees : ℕ → Bool) (others entries : List Entry) → IsAmong changed others entries
      → filter alike (hit_places sees (map entry_sight others) number) ≡ filter alike (hit_places sees (map entry_sight entries) number)
  alike_among sees others entries among =
      ap (λ (them : List Entry). filter alike (hit_places sees (map entry_sight them) number)) among.without
      ∙ ap (filter alike) (places_append sees number among.front among.back)
      ∙ filter-append alike front back
      ∙ ap (λ (places : List Place). filter alike front ++ places) (sym (ap (filter alike) (places_one sees number changed among.back)
      ∙ dropped (sees changed.place.bus && has_config changed.hits number)))
      ∙ sym (ap (λ (them : List Entry). filter alike (hit_places sees (map entry_sight them) number)) among.with
      ∙ ap (filter alike) (places_append sees number among.front (changed ∷ among.back))
      ∙ filter-append alike front (hit_places sees (map entry_sight (changed ∷ among.back)) number))
    where
      front : List Place
      front = hit_places sees (map entry_sight among.front) number

      back : List Place
      back = hit_places sees (map entry_sight among.back) number

      dropped : (s : Bool) → filter alike (cond s (changed.place ∷ back) back) ≡ filter alike back
      dropped true =
          ap (λ (same : Bool). cond (not (same || not (beq (reach changed.place.bus) (reach_after changed.place.bus)))) (changed.place ∷ filter alike back)
          (filter alike back)) (place_itself changed.place)
      dropped false = refl

  -- so the others are the same at both moments
  alike_both : (before after : List Entry) → IsApartBy changed before after
      → filter alike (hit_places reach (map entry_sight before) number) ≡ filter alike (hit_places reach_after (map entry_sight after) number)
  alike_both before after apart =
      hits_alike before ∙ elim apart [
        | inl comes ↦ alike_among reach_after before after comes
        | inr goes ↦ sym (alike_among reach_after after before goes)
      ]

  has_alike : (before after : List Entry) → IsApartBy changed before after → (place : Place) → otherwise place ≡ false
      → has_board (map Some (hit_places reach (map entry_sight before) number)) (Some place)
      ≡ has_board (map Some (hit_places reach_after (map entry_sight after) number)) (Some place)
  has_alike before after apart place is =
      let passes : alike place ≡ true = ap not is in
      sym (has_kept alike (hit_places reach (map entry_sight before) number) place passes)
      ∙ ap (λ (places : List Place). has_board (map Some places) (Some place)) (alike_both before after apart)
      ∙ has_kept alike (hit_places reach_after (map entry_sight after) number) place passes

  -- the test is the same either way round
  swapped : (entries : List Entry) → otherwise_of reach_after reach changed.place entries ≡ otherwise_of reach reach_after changed.place entries
  swapped entries =
      filter_alike _ _ entries (all_any _ (λ entry. ap (λ (same : Bool). place_eq entry.place changed.place || not same)
      (either (reach_after entry.place.bus) (reach entry.place.bus))) entries)
    where
      either : (one other : Bool) → beq one other ≡ beq other one
      either true true = refl
      either true false = refl
      either false true = refl
      either false false = refl

  hits_after : (after : List Entry) → hit_places reach_after (map entry_sight (otherwise_of reach_after reach changed.place after)) number
      ≡ filter otherwise (hit_places reach_after (map entry_sight after) number)
  hits_after after =
      ap (λ (entries : List Entry). hit_places reach_after (map entry_sight entries) number) (swapped after) ∙ hits_otherwise reach_after after

  -- the keys that go and those that come
  pub gone_otherwise : (before after : List Entry) → IsApartBy changed before after
      → left number (hits_in reach before number) (hits_in reach_after after number)
      ≡ left number (hits_in reach (otherwise_of reach reach_after changed.place before) number)
      (hits_in reach_after (otherwise_of reach_after reach changed.place after) number)
  gone_otherwise before after apart =
      left_kept otherwise number _ _ (has_alike before after apart)
      ∙ sym (ap₂ (λ (here there : List Place). left number (map Some here) (map Some there)) (hits_otherwise reach before) (hits_after after))

  pub come_otherwise : (before after : List Entry) → IsApartBy changed before after
      → left number (hits_in reach_after after number) (hits_in reach before number)
      ≡ left number (hits_in reach_after (otherwise_of reach_after reach changed.place after) number)
      (hits_in reach (otherwise_of reach reach_after changed.place before) number)
  come_otherwise before after apart =
      left_kept otherwise number _ _ (λ place is. sym (has_alike before after apart place is))
      ∙ sym (ap₂ (λ (here there : List Place). left number (map Some here) (map Some there)) (hits_after after) (hits_otherwise reach before))

-- ---- lists of entries

pub otherwise_more : (reach reach_after : ℕ → Bool) (changed : Place) (boxes : List (Box Entry)) (i : ℕ) (box : Box Entry) (entry : Entry)
    (start so_far now : List Entry) → i < length boxes → box ≡ get_or boxes i box → entry ≡ box.value
    → so_far ≡ start ++ otherwise_of reach reach_after changed (unboxed (take i boxes))
    → now ≡ so_far ++ otherwise_of reach reach_after changed (entry ∷ [])
    → now ≡ start ++ otherwise_of reach reach_after changed (unboxed (take (i + 1) boxes))
otherwise_more reach reach_after changed boxes i box entry start so_far now within is holds before e =
    let entries : List Entry = unboxed (take i boxes) in
    let these : List Entry → List Entry = otherwise_of reach reach_after changed in
    e ∙ ap (λ (list : List Entry). list ++ these (entry ∷ [])) before
    ∙ append_assoc start (these entries) (these (entry ∷ []))
    ∙ ap (λ (list : List Entry). start ++ list) (sym (filter-append (λ (each : Entry). is_otherwise reach reach_after changed each.place) entries (entry ∷ [])))
    ∙ ap (λ (list : List Entry). start ++ these list) (sym (unboxed_more boxes i box entry within is holds))

-- one reference more
pub among_more : (reach : ℕ → Bool) (number : ℕ) (refs : List (Bor Entry)) (i : ℕ) (ref : Bor Entry) (start so_far now : List (Option Place))
    → i < length refs → ref ≡ get_or refs i ref → so_far ≡ start ++ hits_in reach (entries_of (take i refs)) number
    → now ≡ so_far ++ hits_in reach (ref.now ∷ []) number
    → now ≡ start ++ hits_in reach (entries_of (take (i + 1) refs)) number
among_more reach number refs i ref start so_far now within is before e =
    let entries : List Entry = entries_of (take i refs) in
    e ∙ ap (λ (places : List (Option Place)). places ++ hits_in reach (ref.now ∷ []) number) before
    ∙ append_assoc start (hits_in reach entries number) (hits_in reach (ref.now ∷ []) number)
    ∙ ap (λ (places : List (Option Place)). start ++ places) (sym (hits_append reach number entries (ref.now ∷ [])))
    ∙ ap (λ (them : List Entry). start ++ hits_in reach them number) (sym (map-append (λ (each : Bor Entry). each.now) (take i refs) (ref ∷ [])))
    ∙ ap (λ (these : List (Bor Entry)). start ++ hits_in reach (entries_of these) number) (sym (ap (λ (last : Bor Entry). take i refs ++ last ∷ []) (sym is))
    ∙ sym (take_more refs i ref within))

-- in three parts
pub otherwise_parts : (reach reach_after : ℕ → Bool) (changed : Place) (front middle back start one two three : List Entry) → start ≡ []
    → one ≡ start ++ otherwise_of reach reach_after changed front → two ≡ one ++ otherwise_of reach reach_after changed middle
    → three ≡ two ++ otherwise_of reach reach_after changed back → three ≡ otherwise_of reach reach_after changed (front ++ middle ++ back)
otherwise_parts reach reach_after changed front middle back start one two three none first second third =
    let test : Entry → Bool = λ entry. is_otherwise reach reach_after changed entry.place in
    third ∙ ap (λ (list : List Entry). list ++ filter test back)
    (second ∙ ap (λ (list : List Entry). list ++ filter test middle) (first ∙ ap (λ (list : List Entry). list ++ filter test front) none))
    ∙ sym (filter-append test (front ++ middle) back ∙ ap (λ (list : List Entry). list ++ filter test back) (filter-append test front middle))

-- ---- the boards of a configuration that is found at both moments and has a hit at both

boards_hits : (found reach : ℕ → Bool) (moment : Moment) (number : ℕ) → found number ≡ true
    → IsSome (slice_get (hit_places reach (map entry_sight moment.entries) number) 0)
    → hits_in reach moment.entries number ≡ boards_now false found reach moment number
boards_hits found reach moment number is some =
    some_hits (hit_places reach (map entry_sight moment.entries) number) some ∙ boards_found false found reach moment number is
  where
    some_hits : (places : List Place) → IsSome (slice_get places 0) → map Some places ≡ places_or_none false places
    some_hits [] some = absurd (cc)
    some_hits (first ∷ places) some = refl

-- boards of hits of entries that are seen otherwise ascend
pub among_ascend : (reach : ℕ → Bool) (seen : List Entry) (test : Entry → Bool) (entries : List Entry) (number : ℕ) → are_by_place entries ≡ true
    → seen ≡ filter test entries → AreAscending (hits_in reach seen number)
among_ascend reach seen test entries number order is =
    subst (λ (them : List Entry). AreAscending (hits_in reach them number)) (sym is)
    (ascending_map place_cmp (option_cmp place_cmp) Some (λ one other less. less) (hit_places reach (map entry_sight (filter test entries)) number)
    (hits_ascend reach (map entry_sight (filter test entries)) number (filtered (entries_ascend entries order))))
  where
    filtered : IsStrictlySortedBy place_cmp (map (λ (sight : Sight). sight.place) (map entry_sight entries))
        → IsStrictlySortedBy place_cmp (map (λ (sight : Sight). sight.place) (map entry_sight (filter test entries)))
    filtered ascend =
        subst (IsStrictlySortedBy place_cmp) (map-map (filter test entries))
        (ascending_filter (λ (entry : Entry). entry.place) place_cmp test entries (subst (IsStrictlySortedBy place_cmp) (sym (map-map entries)) ascend))
      where
        map-map : (xs : List Entry) → map (λ (entry : Entry). entry.place) xs ≡ map (λ (sight : Sight). sight.place) (map entry_sight xs)
        map-map [] = refl
        map-map (first ∷ xs) = ap (λ (rest : List Place). first.place ∷ rest) (map-map xs)

module _ (seen : Otherwise) (before after : Moment) (number : ℕ) (apart : AreApart seen before after) (both : HasBoth number before after)
    (found reach found_after reach_after : ℕ → Bool) (marked : IsMarkedBy before.facts found reach)
    (marked_after : IsMarkedBy after.facts found_after reach_after) (small : number < 256) where
  otherwise_both : entries_of seen.before.items ≡ otherwise_of reach reach_after apart.changed.place before.entries
  otherwise_both = apart.otherwise reach reach_after marked.reach marked_after.reach

  otherwise_after : entries_of seen.after.items ≡ otherwise_of reach_after reach apart.changed.place after.entries
  otherwise_after = apart.otherwise_after reach_after reach marked_after.reach marked.reach

  boards_before : hits_in reach before.entries number ≡ boards_now false found reach before number
  boards_before = boards_hits found reach before number (sym (marked.found number small) ∙ both.found.0) (both.hit reach marked.reach)

  boards_after : hits_in reach_after after.entries number ≡ boards_now false found_after reach_after after number
  boards_after =
      boards_hits found_after reach_after after number (sym (marked_after.found number small) ∙ both.found.1)
      (both.hit_after reach_after marked_after.reach)

  pub gone_among : left number (hits_in reach (entries_of seen.before.items) number) (hits_in reach_after (entries_of seen.after.items) number)
      ≡ left number (boards_now false found reach before number) (boards_now false found_after reach_after after number)
  gone_among =
      ap₂ (λ (here there : List Entry). left number (hits_in reach here number) (hits_in reach_after there number)) otherwise_both otherwise_after
      ∙ sym (gone_otherwise reach reach_after apart.changed number before.entries after.entries apart.apart)
      ∙ ap₂ (left number) boards_before boards_after

  pub come_among : left number (hits_in reach_after (entries_of seen.after.items) number) (hits_in reach (entries_of seen.before.items) number)
      ≡ left number (boards_now false found_after reach_after after number) (boards_now false found reach before number)
  come_among =
      ap₂ (λ (here there : List Entry). left number (hits_in reach_after here number) (hits_in reach there number)) otherwise_after otherwise_both
      ∙ sym (come_otherwise reach reach_after apart.changed number before.entries after.entries apart.apart)
      ∙ ap₂ (left number) boards_after boards_before
