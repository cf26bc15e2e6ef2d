-- Entries with one more among them, and without one.
use Rattle.std.proofs.Common.{◌≡◌, ℕ, zero, suc, ◌+◌, ◌<◌, List, [], ◌∷◌, ◌++◌, Bool, true, false, not, cond, ◌&&◌, ◌||◌, Option, Some, length}
use Rattle.std.proofs.Common.{take, filter, find, map, get_or}
use Rattle.std.proofs.Common.{refl, sym, ap, ap₂, ◌∙◌, append_assoc, subst, inl, inr}
use Rattle.std.specs.Prelude.{slice_get}
use Rattle.std.specs.Global.{Box}
use mathlib.Core.Bool.{beq}
use Rattle.found_set.specs.Marks.{AreMarked, is_marked}
use Rattle.std.specs.Ordering.{is_lt, is_eq}
use Rattle.std.specs.declared.cmp.Ordering.{Ordering}
use Rattle.std.specs.declared.cmp.Ordering.TheVariants.{Less, Equal, Greater}
use Rattle.std.specs.List.{list_all, AllByRecursion}
use Rattle.std.proofs.lemmas.List.{map-append, take_more}
use Rattle.std.proofs.lemmas.List.Elements.{filter-append}
use Rattle.bmc_base.specs.Places.{Place, place_cmp}
use Rattle.probe_lang.specs.declared.rows.Entry.{Entry}
use Rattle.probe_lang.specs.Sights.{Sight, entry_sight, has_config}
use Rattle.found_set.specs.Found.{on_buses}
use Rattle.probe_lang.specs.Presents.{unboxed, is_entry_at, are_by_place, with_entry, without_entry}
use Rattle.found_set.specs.declared.facts.Facts.{Facts}
use Rattle.inventory.specs.Boards.{hit_places, places_or_none}
use Rattle.inventory.specs.Differences.{Moment}
use Rattle.inventory.specs.Moments.{hits_in, found_boards, boards_now, AreAllSeenAlike, AreHitAlike, AreSameBut, AreSeenAlike}
use Rattle.inventory.specs.Moments.{IsAmong, IsApartBy, MarksSeenOtherwise}
use Rattle.inventory.proofs.BoardLemmas.{and_first, and_second, place_cmp_eq, place_same}
use Rattle.inventory.proofs.ListLemmas.{all_append, all_map, filter_all, filter_alike}

-- ---- the places of hits

pub places_append : (reach : ℕ → Bool) (number : ℕ) (front back : List Entry) → hit_places reach (map entry_sight (front ++ back)) number ≡ hit_places reach
    (map entry_sight front) number ++ hit_places reach (map entry_sight back) number
places_append reach number front back =
    ap (λ (sights : List Sight). hit_places reach sights number) (map-append entry_sight front back)
    ∙ ap (λ (sights : List Sight). map (λ (sight : Sight). sight.place) (filter (λ (sight : Sight). sight.hit number) sights))
    (filter-append (λ (sight : Sight). reach sight.place.bus) (map entry_sight front) (map entry_sight back))
    ∙ ap (map (λ (sight : Sight). sight.place))
    (filter-append (λ (sight : Sight). sight.hit number) (on_buses reach (map entry_sight front)) (on_buses reach (map entry_sight back)))
    ∙ map-append (λ (sight : Sight). sight.place) (filter (λ (sight : Sight). sight.hit number) (on_buses reach (map entry_sight front)))
    (filter (λ (sight : Sight). sight.hit number) (on_buses reach (map entry_sight back)))

pub hits_append : (reach : ℕ → Bool) (number : ℕ) (front back : List Entry)
    → hits_in reach (front ++ back) number ≡ hits_in reach front number ++ hits_in reach back number
hits_append reach number front back =
    ap (map Some) (places_append reach number front back)
    ∙ map-append Some (hit_places reach (map entry_sight front) number) (hit_places reach (map entry_sight back) number)

-- an entry more
pub places_one : (reach : ℕ → Bool) (number : ℕ) (entry : Entry) (back : List Entry) → hit_places reach (map entry_sight (entry ∷ back)) number
    ≡ cond (reach entry.place.bus && has_config entry.hits number) (entry.place ∷ hit_places reach (map entry_sight back) number)
    (hit_places reach (map entry_sight back) number)
places_one reach number entry back = by (reach entry.place.bus)
  where
    rest : List Sight
    rest = on_buses reach (map entry_sight back)

    places : List Sight → List Place
    places sights = map (λ (sight : Sight). sight.place) (filter (λ (sight : Sight). sight.hit number) sights)

    by : (b : Bool) → places (cond b (entry_sight entry ∷ rest) rest) ≡ cond (b && has_config entry.hits number) (entry.place ∷ places rest) (places rest)
    by true = then (has_config entry.hits number)
      where
        hits : List Sight
        hits = filter (λ (sight : Sight). sight.hit number) rest

        then : (b : Bool) → map (λ (sight : Sight). sight.place) (cond b (entry_sight entry ∷ hits) hits) ≡ cond b (entry.place ∷ places rest) (places rest)
        then true = refl
        then false = refl
    by false = refl

pub hit_one : (reach : ℕ → Bool) (number : ℕ) (entry : Entry)
    → hits_in reach (entry ∷ []) number ≡ cond (reach entry.place.bus && has_config entry.hits number) (Some entry.place ∷ []) []
hit_one reach number entry = by (reach entry.place.bus)
  where
    by : (b : Bool) → map Some (map (λ (sight : Sight). sight.place) (filter (λ (sight : Sight). sight.hit number) (cond b (entry_sight entry ∷ []) [])))
        ≡ cond (b && has_config entry.hits number) (Some entry.place ∷ []) []
    by true = then (has_config entry.hits number)
      where
        then : (b : Bool) → map Some (map (λ (sight : Sight). sight.place) (cond b (entry_sight entry ∷ []) [])) ≡ cond b (Some entry.place ∷ []) []
        then true = refl
        then false = refl
    by false = refl

-- one box more
pub unboxed_more : (boxes : List (Box Entry)) (i : ℕ) (box : Box Entry) (entry : Entry) → i < length boxes → box ≡ get_or boxes i box → entry ≡ box.value
    → unboxed (take (i + 1) boxes) ≡ unboxed (take i boxes) ++ entry ∷ []
unboxed_more boxes i box entry within is holds =
    ap unboxed (take_more boxes i box within ∙ ap (λ (last : Box Entry). take i boxes ++ last ∷ []) (sym is))
    ∙ map-append (λ (each : Box Entry). each.value) (take i boxes) (box ∷ []) ∙ ap (λ (last : Entry). unboxed (take i boxes) ++ last ∷ []) (sym holds)

pub hits_more : (reach : ℕ → Bool) (number : ℕ) (boxes : List (Box Entry)) (i : ℕ) (box : Box Entry) (entry : Entry) (start so_far now : List (Option Place))
    → i < length boxes → box ≡ get_or boxes i box → entry ≡ box.value → so_far ≡ start ++ hits_in reach (unboxed (take i boxes)) number
    → now ≡ so_far ++ hits_in reach (entry ∷ []) number
    → now ≡ start ++ hits_in reach (unboxed (take (i + 1) boxes)) number
hits_more reach number boxes i box entry start so_far now within is holds before e =
    let entries : List Entry = unboxed (take i boxes) in
    e ∙ ap (λ (places : List (Option Place)). places ++ hits_in reach (entry ∷ []) number) before
    ∙ append_assoc start (hits_in reach entries number) (hits_in reach (entry ∷ []) number)
    ∙ ap (λ (places : List (Option Place)). start ++ places) (sym (hits_append reach number entries (entry ∷ [])))
    ∙ ap (λ (them : List Entry). start ++ hits_in reach them number) (sym (unboxed_more boxes i box entry within is holds))

-- in three parts
pub hits_parts : (reach : ℕ → Bool) (number : ℕ) (front middle back : List Entry) (start one two three : List (Option Place))
    → one ≡ start ++ hits_in reach front number
    → two ≡ one ++ hits_in reach middle number → three ≡ two ++ hits_in reach back number → three ≡ start ++ hits_in reach (front ++ middle ++ back) number
hits_parts reach number front middle back start one two three first second third =
    third ∙ ap (λ (places : List (Option Place)). places ++ hits_in reach back number) (second
    ∙ ap (λ (places : List (Option Place)). places ++ hits_in reach middle number) first)
    ∙ ap (λ (places : List (Option Place)). places ++ hits_in reach back number) (append_assoc start (hits_in reach front number) (hits_in reach middle number))
    ∙ append_assoc start (hits_in reach front number ++ hits_in reach middle number) (hits_in reach back number)
    ∙ ap (λ (places : List (Option Place)). start ++ places) (sym (hits_append reach number (front ++ middle) back
    ∙ ap (λ (places : List (Option Place)). places ++ hits_in reach back number) (hits_append reach number front middle)))

-- ---- one entry comes or goes

same_answer : (one other : Bool) → not (beq one other) ≡ false → one ≡ other
same_answer true true same = refl
same_answer true false same = absurd (cc)
same_answer false true same = absurd (cc)
same_answer false false same = refl

pub alike_bus : (reach reach_after : ℕ → Bool) (marks marks_after : List Bool) (bus at : ℕ) (one other : Bool) → AreMarked marks reach
    → AreMarked marks_after reach_after
    → bus < 256 → bus ≡ at → one ≡ is_marked marks bus → other ≡ is_marked marks_after bus → not (beq one other) ≡ false → reach at ≡ reach_after at
alike_bus reach reach_after marks marks_after bus at one other marked marked_after small is e f same =
    subst (λ n. reach n ≡ reach_after n) is (sym (marked bus small) ∙ sym e ∙ same_answer one other same ∙ f ∙ marked_after bus small)

pub alike_marks : (reach reach_after : ℕ → Bool) (marks marks_after : List Bool) (bus at : ℕ) → AreMarked marks reach → AreMarked marks_after reach_after
    → bus < 256 → bus ≡ at → marks ≡ marks_after → reach at ≡ reach_after at
alike_marks reach reach_after marks marks_after bus at marked marked_after small is same =
    subst (λ n. reach n ≡ reach_after n) is
    (sym (marked bus small) ∙ ap (λ (list : List Bool). is_marked list bus) same ∙ marked_after bus small)

pub alike_more : (reach reach_after : ℕ → Bool) (boxes : List (Box Entry)) (i : ℕ) (box : Box Entry) (entry : Entry) → i < length boxes
    → box ≡ get_or boxes i box → entry ≡ box.value
    → AreSeenAlike reach reach_after (unboxed (take i boxes)) → reach entry.place.bus ≡ reach_after entry.place.bus
    → AreSeenAlike reach reach_after (unboxed (take (i + 1) boxes))
alike_more reach reach_after boxes i box entry within is holds before now =
    subst (AreSeenAlike reach reach_after) (sym (unboxed_more boxes i box entry within is holds))
    (all_append (λ (each : Entry). reach each.place.bus ≡ reach_after each.place.bus) (unboxed (take i boxes)) (entry ∷ []) before (now, tt))

pub alike_parts : (reach reach_after : ℕ → Bool) (front middle back : List Entry) → AreSeenAlike reach reach_after front → AreSeenAlike reach reach_after middle
    → AreSeenAlike reach reach_after back → AreSeenAlike reach reach_after (front ++ middle ++ back)
alike_parts reach reach_after front middle back one two three =
    all_append (λ (each : Entry). reach each.place.bus ≡ reach_after each.place.bus) (front ++ middle) back
    (all_append (λ (each : Entry). reach each.place.bus ≡ reach_after each.place.bus) front middle one two) three

pub alike_places : (reach reach_after : ℕ → Bool) (number : ℕ) (entries : List Entry) → AreSeenAlike reach reach_after entries
    → hit_places reach (map entry_sight entries) number ≡ hit_places reach_after (map entry_sight entries) number
alike_places reach reach_after number entries alike =
    ap (λ (sights : List Sight). map (λ (sight : Sight). sight.place) (filter (λ (sight : Sight). sight.hit number) sights))
    (filter_alike (λ (sight : Sight). reach sight.place.bus) (λ (sight : Sight). reach_after sight.place.bus) (map entry_sight entries)
    (all_map (λ (sight : Sight). reach sight.place.bus ≡ reach_after sight.place.bus) entry_sight entries alike))

no_hit : (reach : ℕ → Bool) (number : ℕ) (entry : Entry) (entries : List Entry) → has_config entry.hits number ≡ false
    → hit_places reach (map entry_sight (entry ∷ entries)) number ≡ hit_places reach (map entry_sight entries) number
no_hit reach number entry entries none = by (reach entry.place.bus)
  where
    rest : List Sight
    rest = on_buses reach (map entry_sight entries)

    by : (b : Bool) → map (λ (sight : Sight). sight.place) (filter (λ (sight : Sight). sight.hit number) (cond b (entry_sight entry ∷ rest) rest))
        ≡ map (λ (sight : Sight). sight.place) (filter (λ (sight : Sight). sight.hit number) rest)
    by true =
        ap (λ (is : Bool). map (λ (sight : Sight). sight.place) (cond is (entry_sight entry ∷ filter (λ (sight : Sight). sight.hit number) rest)
        (filter (λ (sight : Sight). sight.hit number) rest))) none
    by false = refl

among_places : (reach : ℕ → Bool) (number : ℕ) (entry : Entry) (others entries : List Entry) → IsAmong entry others entries
    → has_config entry.hits number ≡ false
    → hit_places reach (map entry_sight others) number ≡ hit_places reach (map entry_sight entries) number
among_places reach number entry others entries among none =
    ap (λ (them : List Entry). hit_places reach (map entry_sight them) number) among.without ∙ places_append reach number among.front among.back
    ∙ ap (λ (places : List Place). hit_places reach (map entry_sight among.front) number ++ places) (sym (no_hit reach number entry among.back none))
    ∙ sym (places_append reach number among.front (entry ∷ among.back))
    ∙ ap (λ (them : List Entry). hit_places reach (map entry_sight them) number) (sym among.with)

-- the places of the hits of a configuration, where no entry that has one is seen otherwise
hit_alike_places : (reach reach_after : ℕ → Bool) (number : ℕ) (entries : List Entry) → AreHitAlike reach reach_after number entries
    → hit_places reach (map entry_sight entries) number ≡ hit_places reach_after (map entry_sight entries) number
hit_alike_places reach reach_after number [] alike = refl
hit_alike_places reach reach_after number (entry ∷ entries) alike =
    places_one reach number entry entries
    ∙ (ap₂ (λ (is : Bool) (places : List Place). cond is (entry.place ∷ places) places) alike.0
    (hit_alike_places reach reach_after number entries alike.1)
    ∙ sym (places_one reach_after number entry entries))

hits_stay : (reach reach_after : ℕ → Bool) (number : ℕ) (entry : Entry) (before after : List Entry) → IsApartBy entry before after
    → AreHitAlike reach reach_after number before → has_config entry.hits number ≡ false
    → hit_places reach (map entry_sight before) number ≡ hit_places reach_after (map entry_sight after) number
hits_stay reach reach_after number entry before after apart alike none =
    hit_alike_places reach reach_after number before alike ∙ elim apart [
      | inl comes ↦ among_places reach_after number entry before after comes none
      | inr goes ↦ sym (among_places reach_after number entry after before goes none)
    ]

-- a configuration that is not marked is found at both moments or at neither, and the entry has no hit of it
unmarked : (one other has : Bool) → (not (beq one other) || has) ≡ false → (one ≡ other) × (has ≡ false)
unmarked true true true none = absurd (cc)
unmarked true true false none = (refl, refl)
unmarked true false has none = absurd (cc)
unmarked false true has none = absurd (cc)
unmarked false false true none = absurd (cc)
unmarked false false false none = (refl, refl)

-- so it has the same boards, where no entry that has a hit of it is seen otherwise
pub same_unmarked : (entry : Entry) (before after : Moment) (old touched new : List Bool) → IsApartBy entry before.entries after.entries
    → AreMarked old (λ config. not (beq (is_marked before.facts.found config) (is_marked after.facts.found config)))
    → AreMarked touched (λ config. is_marked old config || has_config entry.hits config)
    → MarksSeenOtherwise touched new before.facts after.facts before.entries → AreSameBut new before after
same_unmarked entry before after old touched new apart differ touches otherwise =
    λ number small none found reach found_after reach_after marked marked_after match_one.
    let other = otherwise number small none in
    let has = has_config entry.hits number in
    let both = unmarked (is_marked before.facts.found number) (is_marked after.facts.found number) has
    (sym (touches number small ∙ ap (λ (b : Bool). b || has) (differ number small)) ∙ other.0) in
    let is_found : found number ≡ found_after number = sym (marked.found number small) ∙ (both.0 ∙ marked_after.found number small) in
    ap₂ (λ (is : Bool) (places : List Place). cond is (places_or_none match_one places) []) is_found
    (hits_stay reach reach_after number entry before.entries after.entries apart (other.1 reach reach_after marked.reach marked_after.reach) both.1)

-- ---- entries that are seen otherwise

-- where all are seen alike, none is
alike_hits : (reach reach_after : ℕ → Bool) (number : ℕ) (entries : List Entry) → AreSeenAlike reach reach_after entries
    → AreHitAlike reach reach_after number entries
alike_hits reach reach_after number [] alike = tt
alike_hits reach reach_after number (entry ∷ entries) alike =
    (ap (λ (is : Bool). is && has_config entry.hits number) alike.0, alike_hits reach reach_after number entries alike.1)

pub none_otherwise : (before after : Moment) (marks : List Bool) → AreAllSeenAlike before after
    → MarksSeenOtherwise marks marks before.facts after.facts before.entries
none_otherwise before after marks alike = λ number small none. (
  none,
  λ reach reach_after marked marked_after. alike_hits reach reach_after number before.entries (alike reach reach_after marked marked_after),
)

pub no_entries : (marks : List Bool) (facts facts_after : Facts) → MarksSeenOtherwise marks marks facts facts_after []
no_entries marks facts facts_after = λ number small none. (none, λ reach reach_after marked marked_after. tt)

-- one entry, whose bus is reachable in both cases or in neither
pub one_alike : (marks : List Bool) (facts facts_after : Facts) (entry : Entry)
    → ((reach reach_after : ℕ → Bool) → AreMarked facts.reach reach → AreMarked facts_after.reach reach_after
    → reach entry.place.bus ≡ reach_after entry.place.bus)
    → MarksSeenOtherwise marks marks facts facts_after (entry ∷ [])
one_alike marks facts facts_after entry alike = λ number small none. (
  none,
  λ reach reach_after marked marked_after.
      (ap (λ (is : Bool). is && has_config entry.hits number) (alike reach reach_after marked marked_after), tt),
)

-- and one whose hits are marked
pub one_marked : (old new : List Bool) (facts facts_after : Facts) (entry : Entry)
    → AreMarked new (λ number. is_marked old number || has_config entry.hits number) → MarksSeenOtherwise old new facts facts_after (entry ∷ [])
one_marked old new facts facts_after entry touches = λ number small none.
    let both = neither (is_marked old number) (has_config entry.hits number) (sym (touches number small) ∙ none) in (
      both.0,
      λ reach reach_after marked marked_after. (
        ap (λ (has : Bool). reach entry.place.bus && has) both.1 ∙ no_hits (reach entry.place.bus) (reach_after entry.place.bus)
            ∙ sym (ap (λ (has : Bool). reach_after entry.place.bus && has) both.1),
        tt,
      ),
    )
  where
    neither : (one other : Bool) → (one || other) ≡ false → (one ≡ false) × (other ≡ false)
    neither true other none = absurd (cc)
    neither false other none = (refl, none)

    no_hits : (one other : Bool) → (one && false) ≡ (other && false)
    no_hits true true = refl
    no_hits true false = refl
    no_hits false true = refl
    no_hits false false = refl

-- some entries and then others
pub otherwise_both : (old mid new : List Bool) (facts facts_after : Facts) (front back : List Entry) → MarksSeenOtherwise old mid facts facts_after front
    → MarksSeenOtherwise mid new facts facts_after back → MarksSeenOtherwise old new facts facts_after (front ++ back)
otherwise_both old mid new facts facts_after front back first second = λ number small none.
    let later = second number small none in
    let before = first number small later.0 in (
      before.0,
      λ reach reach_after marked marked_after.
          all_append (λ (each : Entry). (reach each.place.bus && has_config each.hits number) ≡ (reach_after each.place.bus && has_config each.hits number))
          front back (before.1 reach reach_after marked marked_after) (later.1 reach reach_after marked marked_after),
    )

pub otherwise_more : (old mid new : List Bool) (facts facts_after : Facts) (boxes : List (Box Entry)) (i : ℕ) (box : Box Entry) (entry : Entry)
    → i < length boxes → box ≡ get_or boxes i box → entry ≡ box.value → MarksSeenOtherwise old mid facts facts_after (unboxed (take i boxes))
    → MarksSeenOtherwise mid new facts facts_after (entry ∷ []) → MarksSeenOtherwise old new facts facts_after (unboxed (take (i + 1) boxes))
otherwise_more old mid new facts facts_after boxes i box entry within is holds before now =
    subst (MarksSeenOtherwise old new facts facts_after) (sym (unboxed_more boxes i box entry within is holds))
    (otherwise_both old mid new facts facts_after (unboxed (take i boxes)) (entry ∷ []) before now)

-- a configuration that is found has these boards
pub boards_found : (match_one : Bool) (found reach : ℕ → Bool) (moment : Moment) (number : ℕ) → found number ≡ true
    → found_boards match_one reach moment number ≡ boards_now match_one found reach moment number
boards_found match_one found reach moment number is =
    ap (λ (is_found : Bool). cond is_found (found_boards match_one reach moment number) []) (sym is)

-- an entry that is put in comes alone
pub with_among : (entry : Entry) (entries : List Entry) → IsAmong entry entries (with_entry entry entries)
with_among entry [] = record { front = []; back = []; without = refl; with = refl }
with_among entry (other ∷ entries) = by (is_lt (place_cmp entry.place other.place)) (with_among entry entries)
  where
    by : (first : Bool) → IsAmong entry entries (with_entry entry entries)
        → IsAmong entry (other ∷ entries) (cond first (entry ∷ other ∷ entries) (other ∷ with_entry entry entries))
    by true rest = record { front = []; back = other ∷ entries; without = refl; with = refl }
    by false rest = record {
      front = other ∷ rest.front;
      back = rest.back;
      without = ap (λ (them : List Entry). other ∷ them) rest.without;
      with = ap (λ (them : List Entry). other ∷ them) rest.with;
    }

less_differs : (o : Ordering) → is_lt o ≡ true → is_eq o ≡ false
less_differs Less less = refl
less_differs Equal less = absurd (cc)
less_differs Greater less = refl

-- an entry stands at a place, so those behind it do not
none_later : (place : Place) (entry : Entry) (entries : List Entry) → is_entry_at place entry ≡ true
    → list_all (λ (later : Entry). is_lt (place_cmp entry.place later.place)) entries ≡ true
    → AllByRecursion (λ (later : Entry). not (is_entry_at place later) ≡ true) entries
none_later place entry [] at ordered = tt
none_later place entry (later ∷ entries) at ordered =
    let same : place ≡ entry.place = place_same place entry.place (sym (place_cmp_eq place entry.place) ∙ at) in (
      ap not (ap (λ (it : Place). is_eq (place_cmp it later.place)) same
          ∙ less_differs _ (and_first _ _ ordered)),
      none_later place entry entries at (and_second _ _ ordered),
    )

before_it : (place : Place) (other entry : Entry) → is_lt (place_cmp other.place entry.place) ≡ true → is_entry_at place entry ≡ true
    → is_entry_at place other ≡ false
before_it place other entry less at = by (is_entry_at place other) refl
  where
    by : (b : Bool) → is_entry_at place other ≡ b → b ≡ false
    by false is = refl
    by true is =
        let here : place ≡ entry.place = place_same place entry.place (sym (place_cmp_eq place entry.place) ∙ at) in
        let there : place ≡ other.place = place_same place other.place (sym (place_cmp_eq place other.place) ∙ is) in
        let equal : is_eq (place_cmp other.place entry.place) ≡ true = ap (λ (it : Place). is_eq (place_cmp it entry.place)) (sym there) ∙ at in
        let differs : is_eq (place_cmp other.place entry.place) ≡ false = less_differs _ less in
        absurd (cc)

later_at : (test : Entry → Bool) (entries : List Entry) (at : ℕ) (entry : Entry) → list_all test entries ≡ true → slice_get entries at ≡ Some entry
    → test entry ≡ true
later_at test [] at entry all is = absurd (cc)
later_at test (first ∷ entries) zero entry all is = let same : first ≡ entry = cc in ap test (sym same) ∙ and_first _ _ all
later_at test (first ∷ entries) (suc at) entry all is = later_at test entries at entry (and_second _ _ all) is

-- an entry that is taken out goes alone
pub without_among : (place : Place) (entries : List Entry) (at : ℕ) (entry : Entry) → are_by_place entries ≡ true → slice_get entries at ≡ Some entry
    → is_entry_at place entry ≡ true → IsAmong entry (without_entry place entries) entries
without_among place [] at entry ordered is here = absurd (cc)
without_among place (first ∷ entries) zero entry ordered is here =
    let same : first ≡ entry = cc in
    let stands : is_entry_at place first ≡ true = ap (is_entry_at place) same ∙ here in
    record {
      front = [];
      back = entries;
      without = ap (λ (b : Bool). cond (not b) (first ∷ without_entry place entries) (without_entry place entries)) stands
          ∙ filter_all (λ (each : Entry). not (is_entry_at place each)) entries (none_later place first entries stands (and_first _ _ ordered));
      with = ap (λ (each : Entry). each ∷ entries) same;
    }
without_among place (first ∷ entries) (suc at) entry ordered is here =
    let rest = without_among place entries at entry (and_second _ _ ordered) is here in
    let less : is_lt (place_cmp first.place entry.place) ≡ true =
    later_at (λ (later : Entry). is_lt (place_cmp first.place later.place)) entries at entry (and_first _ _ ordered) is in
    record {
      front = first ∷ rest.front;
      back = rest.back;
      without = ap (λ (b : Bool). cond (not b) (first ∷ without_entry place entries) (without_entry place entries)) (before_it place first entry less here)
          ∙ ap (λ (them : List Entry). first ∷ them) rest.without;
      with = ap (λ (them : List Entry). first ∷ them) rest.with;
    }

entry_at : (place : Place) (entries : List Entry) (entry : Entry) → find (is_entry_at place) entries ≡ Some entry
    → (at : ℕ) × (slice_get entries at ≡ Some entry) × (is_entry_at place entry ≡ true)
entry_at place [] entry found = absurd (cc)
entry_at place (first ∷ entries) entry found = by (is_entry_at place first) refl found (entry_at place entries entry)
  where
    by : (here : Bool) → is_entry_at place first ≡ here → cond here (Some first) (find (is_entry_at place) entries) ≡ Some entry
        → (find (is_entry_at place) entries ≡ Some entry → (at : ℕ) × (slice_get entries at ≡ Some entry) × (is_entry_at place entry ≡ true))
        → (at : ℕ) × (slice_get (first ∷ entries) at ≡ Some entry) × (is_entry_at place entry ≡ true)
    by true is same rest = let first_is : first ≡ entry = cc in (0, same, sym (ap (is_entry_at place) first_is) ∙ is)
    by false is later rest = let there = rest later in (suc there.0, there.1, there.2)

-- the entry that is found at a place is apart from the others
pub found_apart : (place : Place) (entries : List Entry) (entry : Entry) → are_by_place entries ≡ true → find (is_entry_at place) entries ≡ Some entry
    → IsAmong entry (without_entry place entries) entries
found_apart place entries entry ordered found =
    let at = entry_at place entries entry found in without_among place entries at.0 entry ordered at.1 at.2
