-- Two lists of entries, joined by place.
use Rattle.std.proofs.Common.{◌≡◌, ◌∙◌, suc, ◌+◌, length, Bool, true, false, not, cond, ◌||◌, List, [], ◌∷◌, filter, Option, Some, None, refl, sym}
use Rattle.std.proofs.Common.{ap, subst, arith}
use Rattle.std.specs.Global.{Box}
use Rattle.std.specs.Option.{is_some}
use Rattle.std.specs.List.{list_all, find}
use Rattle.std.specs.Ordering.{is_lt, is_eq, ordering_reverse}
use Rattle.std.specs.declared.cmp.Ordering.{Ordering}
use Rattle.std.specs.declared.cmp.Ordering.TheVariants.{Less, Equal, Greater}
use Rattle.std.proofs.lemmas.Bool.{and_parts, and_from, or_parts, or_from}
use Rattle.bmc_base.specs.Places.{Place, place_cmp}
use Rattle.probe_lang.specs.declared.rows.Entry.{Entry}
use Rattle.probe_lang.specs.Presents.{unboxed, is_entry_at, holds_place, with_entry, are_by_place}
use Rattle.match_rows.proofs.PlacesLemmas.{place_total, is_before, is_same, before_trans, other_way, not_behind}
use Rattle.match_rows.proofs.RowsLemmas.{with_entry_by_place, found_is_held}
use Rattle.fru_rows.specs.Parts.{joined, comes_first, AreApart}

-- ---- places

abbrev pub are_behind : Place → List Entry → Bool
are_behind place entries = list_all (λ (later : Entry). is_before place later.place) entries

before_is_other : (place other : Place) → is_before place other ≡ true → is_same place other ≡ false
before_is_other place other before = by (place_cmp place other) before
  where
    by : (order : Ordering) → is_lt order ≡ true → is_eq order ≡ false
    by Less before = refl
    by Equal before = absurd (cc)
    by Greater before = absurd (cc)

pub same_back : (place other : Place) → is_same place other ≡ is_same other place
same_back place other = ap is_eq (place_total.antisymm place other) ∙ by (place_cmp other place)
  where
    by : (order : Ordering) → is_eq (ordering_reverse order) ≡ is_eq order
    by Less = refl
    by Equal = refl
    by Greater = refl

-- two places that are the same compare alike with a third
pub same_alike : (place other third : Place) → is_same place other ≡ true → is_same place third ≡ is_same other third
same_alike place other third same = ap is_eq (place_total.congr place other third (equal (place_cmp place other) same))
  where
    equal : (order : Ordering) → is_eq order ≡ true → order ≡ Equal
    equal Less same = absurd (cc)
    equal Equal same = refl
    equal Greater same = absurd (cc)

before_not : (first middle last : Place) → is_before middle last ≡ true → is_before first last ≡ false → is_before first middle ≡ false
before_not first middle last before late = by (is_before first middle) refl
  where
    by : (answer : Bool) → is_before first middle ≡ answer → answer ≡ false
    by true is = absurd (let both = before_trans first middle last is before in cc)
    by false is = refl

pub not_true : (answer : Bool) → not answer ≡ true → answer ≡ false
not_true true is = absurd (cc)
not_true false is = refl

behind_from : (place other : Place) (entries : List Entry) → is_before place other ≡ true → are_behind other entries ≡ true
    → are_behind place entries ≡ true
behind_from place other [] before behind = refl
behind_from place other (entry ∷ entries) before behind =
    let parts = and_parts _ _ behind in
    and_from _ _ (before_trans place other entry.place before parts.0) (behind_from place other entries before parts.1)

free_behind : (place : Place) (entries : List Entry) → are_behind place entries ≡ true → holds_place entries place ≡ false
free_behind place [] behind = refl
free_behind place (entry ∷ entries) behind =
    let parts = and_parts _ _ behind in or_from _ _ (before_is_other place entry.place parts.0) (free_behind place entries parts.1)

-- ---- one entry among others

pub all_with : (test : Entry → Bool) (entry : Entry) (entries : List Entry) → test entry ≡ true → list_all test entries ≡ true
    → list_all test (with_entry entry entries) ≡ true
all_with test entry [] passes all = and_from _ _ passes refl
all_with test entry (other ∷ entries) passes all =
    by (is_before entry.place other.place) (all_with test entry entries passes (and_parts _ _ all).1)
  where
    by : (first : Bool) → list_all test (with_entry entry entries) ≡ true
        → list_all test (cond first (entry ∷ other ∷ entries) (other ∷ with_entry entry entries)) ≡ true
    by true rest = and_from _ _ passes all
    by false rest = and_from _ _ (and_parts _ _ all).0 rest

-- it goes before those that all come behind it
with_front : (entry : Entry) (entries : List Entry) → are_behind entry.place entries ≡ true → with_entry entry entries ≡ entry ∷ entries
with_front entry [] behind = refl
with_front entry (other ∷ entries) behind =
    ap (λ (first : Bool). cond first (entry ∷ other ∷ entries) (other ∷ with_entry entry entries)) (and_parts _ _ behind).0

pub holds_with : (entry : Entry) (entries : List Entry) (place : Place)
    → holds_place (with_entry entry entries) place ≡ (is_entry_at place entry || holds_place entries place)
holds_with entry [] place = refl
holds_with entry (other ∷ entries) place = by (is_before entry.place other.place) (holds_with entry entries place)
  where
    swap : (one two three : Bool) → (one || (two || three)) ≡ (two || (one || three))
    swap true true three = refl
    swap true false three = refl
    swap false two three = refl

    by : (first : Bool) → holds_place (with_entry entry entries) place ≡ (is_entry_at place entry || holds_place entries place)
        → holds_place (cond first (entry ∷ other ∷ entries) (other ∷ with_entry entry entries)) place
        ≡ (is_entry_at place entry || (is_entry_at place other || holds_place entries place))
    by true rest = refl
    by false rest =
        ap (λ (later : Bool). is_entry_at place other || later) rest
        ∙ swap (is_entry_at place other) (is_entry_at place entry) (holds_place entries place)

-- of two entries at different places it does not matter which one is put first
with_swapped : (one two : Entry) (entries : List Entry) → is_same one.place two.place ≡ false
    → with_entry one (with_entry two entries) ≡ with_entry two (with_entry one entries)
with_swapped one two entries differ = at entries
  where
    -- where both go to the front
    both : (entries : List Entry) (before : Bool) → is_before one.place two.place ≡ before
        → cond before (one ∷ two ∷ entries) (two ∷ one ∷ entries) ≡ cond (is_before two.place one.place) (two ∷ one ∷ entries) (one ∷ two ∷ entries)
    both entries true before =
        sym (ap (λ (first : Bool). cond first (two ∷ one ∷ entries) (one ∷ two ∷ entries)) (not_behind two.place one.place before))
    both entries false late =
        sym (ap (λ (first : Bool). cond first (two ∷ one ∷ entries) (one ∷ two ∷ entries))
        (other_way two.place one.place (same_back two.place one.place ∙ differ) ∙ ap not late))

    -- an entry before the first goes to the front
    front : (entry other : Entry) (entries : List Entry) (first : Bool) → is_before entry.place other.place ≡ first
        → with_entry entry (other ∷ entries) ≡ cond first (entry ∷ other ∷ entries) (other ∷ with_entry entry entries)
    front entry other entries first is = ap (λ (first : Bool). cond first (entry ∷ other ∷ entries) (other ∷ with_entry entry entries)) is

    at : (entries : List Entry) → with_entry one (with_entry two entries) ≡ with_entry two (with_entry one entries)
    at [] = both [] (is_before one.place two.place) refl
    at (entry ∷ entries) = by (is_before one.place entry.place) refl (is_before two.place entry.place) refl (at entries)
      where
        by : (first : Bool) → is_before one.place entry.place ≡ first → (second : Bool) → is_before two.place entry.place ≡ second
            → with_entry one (with_entry two entries) ≡ with_entry two (with_entry one entries)
            → with_entry one (cond second (two ∷ entry ∷ entries) (entry ∷ with_entry two entries))
            ≡ with_entry two (cond first (one ∷ entry ∷ entries) (entry ∷ with_entry one entries))
        by true before true before_too rest =
            ap (λ (later : List Entry). cond (is_before one.place two.place) (one ∷ two ∷ entry ∷ entries) (two ∷ later))
            (front one entry entries true before)
            ∙ both (entry ∷ entries) (is_before one.place two.place) refl
            ∙ sym (ap (λ (later : List Entry). cond (is_before two.place one.place) (two ∷ one ∷ entry ∷ entries) (one ∷ later))
            (front two entry entries true before_too))
        by true before false late rest =
            front one entry (with_entry two entries) true before
            ∙ sym (ap (λ (later : List Entry). one ∷ later) (front two entry entries false late))
            ∙ sym (front two one (entry ∷ entries) false (before_not two.place one.place entry.place before late))
        by false late true before rest =
            front one two (entry ∷ entries) false (before_not one.place two.place entry.place before late)
            ∙ ap (λ (later : List Entry). two ∷ later) (front one entry entries false late)
            ∙ sym (front two entry (with_entry one entries) true before)
        by false late false late_too rest =
            front one entry (with_entry two entries) false late
            ∙ ap (λ (later : List Entry). entry ∷ later) rest
            ∙ sym (front two entry (with_entry one entries) false late_too)

-- ---- a test of entries

pub all_filter : (test kept : Entry → Bool) (entries : List Entry) → list_all test entries ≡ true → list_all test (filter kept entries) ≡ true
all_filter test kept [] all = refl
all_filter test kept (entry ∷ entries) all = by (kept entry) (all_filter test kept entries (and_parts _ _ all).1)
  where
    by : (stays : Bool) → list_all test (filter kept entries) ≡ true → list_all test (cond stays (entry ∷ filter kept entries) (filter kept entries)) ≡ true
    by true rest = and_from _ _ (and_parts _ _ all).0 rest
    by false rest = rest

filter_with_out : (test : Entry → Bool) (entry : Entry) (entries : List Entry) → test entry ≡ false
    → filter test (with_entry entry entries) ≡ filter test entries
filter_with_out test entry [] fails = ap (λ (stays : Bool). cond stays (entry ∷ []) []) fails
filter_with_out test entry (other ∷ entries) fails = by (is_before entry.place other.place) (filter_with_out test entry entries fails)
  where
    by : (first : Bool) → filter test (with_entry entry entries) ≡ filter test entries
        → filter test (cond first (entry ∷ other ∷ entries) (other ∷ with_entry entry entries)) ≡ filter test (other ∷ entries)
    by true rest = ap (λ (stays : Bool). cond stays (entry ∷ filter test (other ∷ entries)) (filter test (other ∷ entries))) fails
    by false rest = ap (λ (later : List Entry). cond (test other) (other ∷ later) later) rest

pub filter_with_in : (test : Entry → Bool) (entry : Entry) (entries : List Entry) → are_by_place entries ≡ true → test entry ≡ true
    → filter test (with_entry entry entries) ≡ with_entry entry (filter test entries)
filter_with_in test entry [] order passes = ap (λ (stays : Bool). cond stays (entry ∷ []) []) passes
filter_with_in test entry (other ∷ entries) order passes =
    by (is_before entry.place other.place) refl (test other) refl (filter_with_in test entry entries (and_parts _ _ order).1 passes)
  where
    behind : is_before entry.place other.place ≡ true → are_behind entry.place (other ∷ entries) ≡ true
    behind before = and_from _ _ before (behind_from entry.place other.place entries before (and_parts _ _ order).0)

    filtered : (stays : Bool) → test other ≡ stays → filter test (other ∷ entries) ≡ cond stays (other ∷ filter test entries) (filter test entries)
    filtered stays is = ap (λ (stays : Bool). cond stays (other ∷ filter test entries) (filter test entries)) is

    by : (first : Bool) → is_before entry.place other.place ≡ first → (stays : Bool) → test other ≡ stays
        → filter test (with_entry entry entries) ≡ with_entry entry (filter test entries)
        → filter test (cond first (entry ∷ other ∷ entries) (other ∷ with_entry entry entries)) ≡ with_entry entry (filter test (other ∷ entries))
    by true before stays is rest =
        ap (λ (stays : Bool). cond stays (entry ∷ filter test (other ∷ entries)) (filter test (other ∷ entries))) passes
        ∙ sym (with_front entry (filter test (other ∷ entries)) (all_filter _ test (other ∷ entries) (behind before)))
    by false late true is rest =
        ap (λ (stays : Bool). cond stays (other ∷ filter test (with_entry entry entries)) (filter test (with_entry entry entries))) is
        ∙ ap (λ (later : List Entry). other ∷ later) rest
        ∙ sym (ap (λ (first : Bool). cond first (entry ∷ other ∷ filter test entries) (other ∷ with_entry entry (filter test entries))) late)
        ∙ sym (ap (with_entry entry) (filtered true is))
    by false late false is rest =
        ap (λ (stays : Bool). cond stays (other ∷ filter test (with_entry entry entries)) (filter test (with_entry entry entries))) is
        ∙ rest ∙ sym (ap (with_entry entry) (filtered false is))

-- ---- two lists

length_with : (entry : Entry) (entries : List Entry) → length (with_entry entry entries) ≡ suc (length entries)
length_with entry [] = refl
length_with entry (other ∷ entries) = by (is_before entry.place other.place) (length_with entry entries)
  where
    by : (first : Bool) → length (with_entry entry entries) ≡ suc (length entries)
        → length (cond first (entry ∷ other ∷ entries) (other ∷ with_entry entry entries)) ≡ suc (suc (length entries))
    by true rest = refl
    by false rest = ap suc rest

pub length_joined : (entries others : List Entry) → length (joined entries others) ≡ length entries + length others
length_joined [] others = omega arith
length_joined (entry ∷ entries) others =
    let rest = length_joined entries others in let first = length_with entry (joined entries others) in omega (arith, first, rest)

all_joined : (test : Entry → Bool) (entries others : List Entry) → list_all test entries ≡ true → list_all test others ≡ true
    → list_all test (joined entries others) ≡ true
all_joined test [] others all all_others = all_others
all_joined test (entry ∷ entries) others all all_others =
    let parts = and_parts _ _ all in all_with test entry (joined entries others) parts.0 (all_joined test entries others parts.1 all_others)

pub holds_joined : (entries others : List Entry) (place : Place)
    → holds_place (joined entries others) place ≡ (holds_place entries place || holds_place others place)
holds_joined [] others place = refl
holds_joined (entry ∷ entries) others place =
    holds_with entry (joined entries others) place
    ∙ ap (λ (later : Bool). is_entry_at place entry || later) (holds_joined entries others place)
    ∙ grouped (is_entry_at place entry)
  where
    grouped : (here : Bool)
        → (here || (holds_place entries place || holds_place others place)) ≡ ((here || holds_place entries place) || holds_place others place)
    grouped true = refl
    grouped false = refl

-- a place that none of two joined lists holds
pub free_of_both : (entries others : List Entry) (place : Place) → holds_place (joined entries others) place ≡ false
    → (holds_place entries place ≡ false) × (holds_place others place ≡ false)
free_of_both entries others place free = or_parts _ _ (sym (holds_joined entries others place) ∙ free)

pub tail_apart : (entry : Entry) (entries others : List Entry) → AreApart (entry ∷ entries) others → AreApart entries others
tail_apart entry entries others apart =
    record { order = (and_parts _ _ apart.order).1; order_others = apart.order_others; free = (and_parts _ _ apart.free).1 }

free_joined : (entry : Entry) (entries others : List Entry) → AreApart (entry ∷ entries) others → holds_place (joined entries others) entry.place ≡ false
free_joined entry entries others apart =
    holds_joined entries others entry.place
    ∙ or_from _ _ (free_behind entry.place entries (and_parts _ _ apart.order).0) (not_true _ (and_parts _ _ apart.free).0)

pub joined_by_place : (entries others : List Entry) → AreApart entries others → are_by_place (joined entries others) ≡ true
joined_by_place [] others apart = apart.order_others
joined_by_place (entry ∷ entries) others apart =
    with_entry_by_place entry (joined entries others) (joined_by_place entries others (tail_apart entry entries others apart))
    (free_joined entry entries others apart)

-- an entry that comes to the first list, or to the other
pub joined_with : (entry : Entry) (entries others : List Entry) → holds_place entries entry.place ≡ false
    → joined (with_entry entry entries) others ≡ with_entry entry (joined entries others)
joined_with entry [] others free = refl
joined_with entry (other ∷ entries) others free =
    by (is_before entry.place other.place) (joined_with entry entries others (or_parts _ _ free).1)
  where
    by : (first : Bool) → joined (with_entry entry entries) others ≡ with_entry entry (joined entries others)
        → joined (cond first (entry ∷ other ∷ entries) (other ∷ with_entry entry entries)) others
        ≡ with_entry entry (with_entry other (joined entries others))
    by true rest = refl
    by false rest =
        ap (with_entry other) rest
        ∙ with_swapped other entry (joined entries others) (same_back other.place entry.place ∙ (or_parts _ _ free).0)

pub joined_with_other : (entry : Entry) (entries others : List Entry) → holds_place entries entry.place ≡ false
    → joined entries (with_entry entry others) ≡ with_entry entry (joined entries others)
joined_with_other entry [] others free = refl
joined_with_other entry (other ∷ entries) others free =
    ap (with_entry other) (joined_with_other entry entries others (or_parts _ _ free).1)
    ∙ with_swapped other entry (joined entries others) (same_back other.place entry.place ∙ (or_parts _ _ free).0)

pub joined_none : (entries : List Entry) → are_by_place entries ≡ true → joined entries [] ≡ entries
joined_none [] order = refl
joined_none (entry ∷ entries) order =
    ap (with_entry entry) (joined_none entries (and_parts _ _ order).1) ∙ with_front entry entries (and_parts _ _ order).0

-- a test goes through both
pub filter_joined : (test : Entry → Bool) (entries others : List Entry) → AreApart entries others
    → filter test (joined entries others) ≡ joined (filter test entries) (filter test others)
filter_joined test [] others apart = refl
filter_joined test (entry ∷ entries) others apart = by (test entry) refl (filter_joined test entries others tail)
  where
    tail : AreApart entries others
    tail = tail_apart entry entries others apart

    by : (stays : Bool) → test entry ≡ stays → filter test (joined entries others) ≡ joined (filter test entries) (filter test others)
        → filter test (with_entry entry (joined entries others))
        ≡ joined (cond stays (entry ∷ filter test entries) (filter test entries)) (filter test others)
    by true is rest = filter_with_in test entry (joined entries others) (joined_by_place entries others tail) is ∙ ap (with_entry entry) rest
    by false is rest = filter_with_out test entry (joined entries others) is ∙ rest

-- ---- the entry at a place

find_with_here : (place : Place) (entry : Entry) (entries : List Entry) → is_entry_at place entry ≡ true → holds_place entries entry.place ≡ false
    → find (is_entry_at place) (with_entry entry entries) ≡ Some entry
find_with_here place entry [] here free = ap (λ (here : Bool). cond here (Some entry) None) here
find_with_here place entry (other ∷ entries) here free =
    by (is_before entry.place other.place) (find_with_here place entry entries here (or_parts _ _ free).1)
  where
    by : (first : Bool) → find (is_entry_at place) (with_entry entry entries) ≡ Some entry
        → find (is_entry_at place) (cond first (entry ∷ other ∷ entries) (other ∷ with_entry entry entries)) ≡ Some entry
    by true rest = ap (λ (here : Bool). cond here (Some entry) (find (is_entry_at place) (other ∷ entries))) here
    by false rest =
        ap (λ (here : Bool). cond here (Some other) (find (is_entry_at place) (with_entry entry entries)))
        (same_alike place entry.place other.place here ∙ (or_parts _ _ free).0)
        ∙ rest

find_with_away : (place : Place) (entry : Entry) (entries : List Entry) → is_entry_at place entry ≡ false
    → find (is_entry_at place) (with_entry entry entries) ≡ find (is_entry_at place) entries
find_with_away place entry [] away = ap (λ (here : Bool). cond here (Some entry) None) away
find_with_away place entry (other ∷ entries) away = by (is_before entry.place other.place) (find_with_away place entry entries away)
  where
    by : (first : Bool) → find (is_entry_at place) (with_entry entry entries) ≡ find (is_entry_at place) entries
        → find (is_entry_at place) (cond first (entry ∷ other ∷ entries) (other ∷ with_entry entry entries))
        ≡ find (is_entry_at place) (other ∷ entries)
    by true rest = ap (λ (here : Bool). cond here (Some entry) (find (is_entry_at place) (other ∷ entries))) away
    by false rest = ap (λ (later : Option Entry). cond (is_entry_at place other) (Some other) later) rest

found_in_first : (place : Place) (entries others : List Entry) (entry : Entry) → AreApart entries others
    → find (is_entry_at place) entries ≡ Some entry → find (is_entry_at place) (joined entries others) ≡ Some entry
found_in_first place [] others entry apart found = absurd (cc)
found_in_first place (first ∷ entries) others entry apart found =
    by (is_entry_at place first) refl found (found_in_first place entries others entry (tail_apart first entries others apart))
  where
    by : (here : Bool) → is_entry_at place first ≡ here → cond here (Some first) (find (is_entry_at place) entries) ≡ Some entry
        → (find (is_entry_at place) entries ≡ Some entry → find (is_entry_at place) (joined entries others) ≡ Some entry)
        → find (is_entry_at place) (with_entry first (joined entries others)) ≡ Some entry
    by true is found rest = find_with_here place first (joined entries others) is (free_joined first entries others apart) ∙ found
    by false is found rest = find_with_away place first (joined entries others) is ∙ rest found

pub found_in_other : (place : Place) (entries others : List Entry) → holds_place entries place ≡ false
    → find (is_entry_at place) (joined entries others) ≡ find (is_entry_at place) others
found_in_other place [] others free = refl
found_in_other place (entry ∷ entries) others free =
    let parts = or_parts _ _ free in
    find_with_away place entry (joined entries others) parts.0 ∙ found_in_other place entries others parts.1

pub same_found : (place : Place) (entries others : List Entry) → AreApart entries others → holds_place entries place ≡ true
    → find (is_entry_at place) entries ≡ find (is_entry_at place) (joined entries others)
same_found place entries others apart held = by (find (is_entry_at place) entries) refl (found_is_held place entries ∙ held)
  where
    by : (found : Option Entry) → find (is_entry_at place) entries ≡ found → is_some found ≡ true → found ≡ find (is_entry_at place) (joined entries others)
    by None is none = absurd (cc)
    by (Some entry) is some = sym (found_in_first place entries others entry apart is)

-- whether the place is held follows from the list that may have it
pub held_in_first : (place : Place) (entries others : List Entry) → holds_place entries place ≡ true → holds_place (joined entries others) place ≡ true
held_in_first place entries others held = holds_joined entries others place ∙ ap (λ (here : Bool). here || holds_place others place) held

pub held_in_other : (place : Place) (entries others : List Entry) → holds_place entries place ≡ false
    → holds_place (joined entries others) place ≡ holds_place others place
held_in_other place entries others free = holds_joined entries others place ∙ ap (λ (here : Bool). here || holds_place others place) free

-- ---- the next by place

next_of_first : (entry : Entry) (entries others : List Entry) → AreApart (entry ∷ entries) others → comes_first (entry ∷ entries) others ≡ true
    → joined (entry ∷ entries) others ≡ entry ∷ joined entries others
next_of_first entry entries others apart first =
    with_front entry (joined entries others)
    (all_joined _ entries others (and_parts _ _ apart.order).0 (behind others apart.order_others first))
  where
    behind : (others : List Entry) → are_by_place others ≡ true → comes_first (entry ∷ entries) others ≡ true → are_behind entry.place others ≡ true
    behind [] order first = refl
    behind (other ∷ others) order first = and_from _ _ first (behind_from entry.place other.place others first (and_parts _ _ order).0)

-- the first of the other list has a place of its own
other_free : (entries others : List Entry) (other : Entry) → list_all (λ (entry : Entry). not (holds_place (other ∷ others) entry.place)) entries ≡ true
    → holds_place entries other.place ≡ false
other_free [] others other free = refl
other_free (entry ∷ entries) others other free =
    let parts = and_parts _ _ free in
    or_from _ _ (same_back other.place entry.place ∙ (or_parts _ _ (not_true _ parts.0)).0) (other_free entries others other parts.1)

later_free : (entries others : List Entry) (other : Entry) → list_all (λ (entry : Entry). not (holds_place (other ∷ others) entry.place)) entries ≡ true
    → list_all (λ (entry : Entry). not (holds_place others entry.place)) entries ≡ true
later_free [] others other free = refl
later_free (entry ∷ entries) others other free =
    let parts = and_parts _ _ free in
    and_from _ _ (ap not (or_parts _ _ (not_true _ parts.0)).1) (later_free entries others other parts.1)

later_apart : (entries others : List Entry) (other : Entry) → AreApart entries (other ∷ others) → AreApart entries others
later_apart entries others other apart =
    record { order = apart.order; order_others = (and_parts _ _ apart.order_others).1; free = later_free entries others other apart.free }

next_of_other : (entries others : List Entry) (other : Entry) → AreApart entries (other ∷ others) → comes_first entries (other ∷ others) ≡ false
    → joined entries (other ∷ others) ≡ other ∷ joined entries others
next_of_other entries others other apart late =
    ap (joined entries) (sym (with_front other others (and_parts _ _ apart.order_others).0))
    ∙ joined_with_other other entries others (other_free entries others other apart.free)
    ∙ with_front other (joined entries others)
    (all_joined _ entries others (behind entries apart.order late (other_free entries others other apart.free)) (and_parts _ _ apart.order_others).0)
  where
    behind : (entries : List Entry) → are_by_place entries ≡ true → comes_first entries (other ∷ others) ≡ false → holds_place entries other.place ≡ false
        → are_behind other.place entries ≡ true
    behind [] order late free = refl
    behind (entry ∷ entries) order late free =
        let before = other_way other.place entry.place (or_parts _ _ free).0 ∙ ap not late in
        and_from _ _ before (behind_from other.place entry.place entries before (and_parts _ _ order).0)

-- ---- the same of boxes

pub first_of_boxes : (boxes others later : List (Box Entry)) (first : Box Entry) → boxes ≡ first ∷ later → AreApart (unboxed boxes) (unboxed others)
    → comes_first (unboxed boxes) (unboxed others) ≡ true → joined (unboxed boxes) (unboxed others) ≡ first.value ∷ joined (unboxed later) (unboxed others)
first_of_boxes boxes others later first is =
    subst (λ (boxes : List (Box Entry)). AreApart (unboxed boxes) (unboxed others) → comes_first (unboxed boxes) (unboxed others) ≡ true
    → joined (unboxed boxes) (unboxed others) ≡ first.value ∷ joined (unboxed later) (unboxed others)) (sym is)
    (next_of_first first.value (unboxed later) (unboxed others))

pub other_of_boxes : (boxes others later : List (Box Entry)) (first : Box Entry) → others ≡ first ∷ later → AreApart (unboxed boxes) (unboxed others)
    → comes_first (unboxed boxes) (unboxed others) ≡ false → joined (unboxed boxes) (unboxed others) ≡ first.value ∷ joined (unboxed boxes) (unboxed later)
other_of_boxes boxes others later first is =
    subst (λ (others : List (Box Entry)). AreApart (unboxed boxes) (unboxed others) → comes_first (unboxed boxes) (unboxed others) ≡ false
    → joined (unboxed boxes) (unboxed others) ≡ first.value ∷ joined (unboxed boxes) (unboxed later)) (sym is)
    (next_of_other (unboxed boxes) (unboxed later) first.value)

pub boxes_apart : (boxes others later : List (Box Entry)) (first : Box Entry) → others ≡ first ∷ later → AreApart (unboxed boxes) (unboxed others)
    → AreApart (unboxed boxes) (unboxed later)
boxes_apart boxes others later first is =
    subst (λ (others : List (Box Entry)). AreApart (unboxed boxes) (unboxed others) → AreApart (unboxed boxes) (unboxed later)) (sym is)
    (later_apart (unboxed boxes) (unboxed later) first.value)
