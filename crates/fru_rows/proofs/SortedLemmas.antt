-- The busy entries in one list, and the idle ones in another.
use Rattle.std.proofs.Common.{◌≡◌, ◌∙◌, ℕ, ◌<◌, min, Bool, true, false, not, cond, ◌||◌, List, [], ◌∷◌, refl, sym, ap, ap₂, arith}
use Rattle.std.specs.List.{list_all}
use Rattle.std.proofs.Math.Nat.{min-le_left, min-le_right}
use Rattle.std.proofs.lemmas.Bool.{and_parts, and_from, or_parts, or_from}
use Rattle.bmc_base.specs.Places.{Place}
use Rattle.probe_lang.specs.declared.rows.Entry.{Entry}
use Rattle.probe_lang.specs.Presents.{is_entry_at, holds_place, with_entry, without_entry}
use Rattle.match_rows.proofs.RowsLemmas.{with_entry_by_place, without_entry_by_place, without_none}
use Rattle.fru_rows.specs.Idle.{is_idle, busy, idle}
use Rattle.fru_rows.specs.Parts.{joined, AreApart, AreSorted}
use Rattle.fru_rows.proofs.JoinedLemmas.{all_with, all_filter, holds_with, same_back, same_alike, not_true, joined_none, filter_joined}

-- room in both is room in each
pub room_in_first : (one two : ℕ) → 0 < min one two → 0 < one
room_in_first one two room = let least = min-le_left one two in omega (arith, room, least)

pub room_in_other : (one two : ℕ) → 0 < min one two → 0 < two
room_in_other one two room = let least = min-le_right one two in omega (arith, room, least)

-- ---- the busy entries are those of the first list

all_stay : (entries : List Entry) → list_all (λ (entry : Entry). not (is_idle entry)) entries ≡ true → busy entries ≡ entries
all_stay [] all = refl
all_stay (entry ∷ entries) all =
    let parts = and_parts _ _ all in
    ap₂ (λ (stays : Bool) (later : List Entry). cond stays (entry ∷ later) later) parts.0 (all_stay entries parts.1)

none_stays : (entries : List Entry) → list_all is_idle entries ≡ true → busy entries ≡ []
none_stays [] all = refl
none_stays (entry ∷ entries) all =
    let parts = and_parts _ _ all in
    ap₂ (λ (idle : Bool) (later : List Entry). cond (not idle) (entry ∷ later) later) parts.0 (none_stays entries parts.1)

pub busy_joined : (entries others : List Entry) → AreSorted entries others → entries ≡ busy (joined entries others)
busy_joined entries others sorted =
    sym (filter_joined (λ (entry : Entry). not (is_idle entry)) entries others sorted.apart
    ∙ ap₂ joined (all_stay entries sorted.all_busy) (none_stays others sorted.all_idle) ∙ joined_none entries sorted.apart.order)

all_left : (others : List Entry) → list_all is_idle others ≡ true → idle others ≡ others
all_left [] all = refl
all_left (other ∷ others) all =
    let parts = and_parts _ _ all in
    ap₂ (λ (stays : Bool) (later : List Entry). cond stays (other ∷ later) later) parts.0 (all_left others parts.1)

none_left : (entries : List Entry) → list_all (λ (entry : Entry). not (is_idle entry)) entries ≡ true → idle entries ≡ []
none_left [] all = refl
none_left (entry ∷ entries) all =
    let parts = and_parts _ _ all in
    ap₂ (λ (stays : Bool) (later : List Entry). cond stays (entry ∷ later) later) (not_true _ parts.0) (none_left entries parts.1)

pub idle_joined : (entries others : List Entry) → AreSorted entries others → others ≡ idle (joined entries others)
idle_joined entries others sorted =
    sym (filter_joined is_idle entries others sorted.apart ∙ ap₂ joined (none_left entries sorted.all_busy) (all_left others sorted.all_idle))

-- ---- an entry comes

pub busy_comes : (entry : Entry) (entries others : List Entry) → AreSorted entries others → is_idle entry ≡ false → holds_place entries entry.place ≡ false
    → holds_place others entry.place ≡ false → AreSorted (with_entry entry entries) others
busy_comes entry entries others sorted works free free_there = record {
  apart = record {
    order = with_entry_by_place entry entries sorted.apart.order free;
    order_others = sorted.apart.order_others;
    free = all_with _ entry entries (ap not free_there) sorted.apart.free;
  };
  all_busy = all_with _ entry entries (ap not works) sorted.all_busy;
  all_idle = sorted.all_idle;
}

free_with : (entry : Entry) (entries others : List Entry) → list_all (λ (each : Entry). not (holds_place others each.place)) entries ≡ true
    → holds_place entries entry.place ≡ false → list_all (λ (each : Entry). not (holds_place (with_entry entry others) each.place)) entries ≡ true
free_with entry [] others all free = refl
free_with entry (first ∷ entries) others all free =
    let parts = and_parts _ _ all in
    let apart = or_parts _ _ free in
    and_from _ _ (ap not (holds_with entry others first.place
    ∙ or_from _ _ (same_back first.place entry.place ∙ apart.0) (not_true _ parts.0))) (free_with entry entries others parts.1 apart.1)

pub idle_comes : (entry : Entry) (entries others : List Entry) → AreSorted entries others → is_idle entry ≡ true → holds_place entries entry.place ≡ false
    → holds_place others entry.place ≡ false → AreSorted entries (with_entry entry others)
idle_comes entry entries others sorted idle free free_there = record {
  apart = record {
    order = sorted.apart.order;
    order_others = with_entry_by_place entry others sorted.apart.order_others free_there;
    free = free_with entry entries others sorted.apart.free free;
  };
  all_busy = sorted.all_busy;
  all_idle = all_with _ entry others idle sorted.all_idle;
}

-- ---- an entry goes

pub busy_goes : (place : Place) (entries others : List Entry) → AreSorted entries others → AreSorted (without_entry place entries) others
busy_goes place entries others sorted = record {
  apart = record {
    order = without_entry_by_place place entries sorted.apart.order;
    order_others = sorted.apart.order_others;
    free = all_filter _ _ entries sorted.apart.free;
  };
  all_busy = all_filter _ _ entries sorted.all_busy;
  all_idle = sorted.all_idle;
}

free_without : (place other : Place) (entries : List Entry) → holds_place entries other ≡ false → holds_place (without_entry place entries) other ≡ false
free_without place other [] free = refl
free_without place other (entry ∷ entries) free =
    by (is_entry_at place entry) (free_without place other entries (or_parts _ _ free).1)
  where
    by : (here : Bool) → holds_place (without_entry place entries) other ≡ false
        → holds_place (cond (not here) (entry ∷ without_entry place entries) (without_entry place entries)) other ≡ false
    by true rest = rest
    by false rest = or_from _ _ (or_parts _ _ free).0 rest

all_free_without : (place : Place) (entries others : List Entry) → list_all (λ (each : Entry). not (holds_place others each.place)) entries ≡ true
    → list_all (λ (each : Entry). not (holds_place (without_entry place others) each.place)) entries ≡ true
all_free_without place [] others all = refl
all_free_without place (entry ∷ entries) others all =
    let parts = and_parts _ _ all in
    and_from _ _ (ap not (free_without place entry.place others (not_true _ parts.0))) (all_free_without place entries others parts.1)

pub idle_goes : (place : Place) (entries others : List Entry) → AreSorted entries others → AreSorted entries (without_entry place others)
idle_goes place entries others sorted = record {
  apart = record {
    order = sorted.apart.order;
    order_others = without_entry_by_place place others sorted.apart.order_others;
    free = all_free_without place entries others sorted.apart.free;
  };
  all_busy = sorted.all_busy;
  all_idle = all_filter _ _ others sorted.all_idle;
}

-- ---- the entry at a place goes from the list that has it

held_alike : (place : Place) (entry : Entry) (entries : List Entry) → is_entry_at place entry ≡ true
    → holds_place entries place ≡ holds_place entries entry.place
held_alike place entry [] same = refl
held_alike place entry (other ∷ entries) same =
    ap₂ (λ (here later : Bool). here || later) (same_alike place entry.place other.place same) (held_alike place entry entries same)

held_once : (place : Place) (entries others : List Entry) → list_all (λ (each : Entry). not (holds_place others each.place)) entries ≡ true
    → holds_place entries place ≡ true → holds_place others place ≡ false
held_once place [] others all held = absurd (cc)
held_once place (entry ∷ entries) others all held =
    by (is_entry_at place entry) refl held (held_once place entries others (and_parts _ _ all).1)
  where
    by : (here : Bool) → is_entry_at place entry ≡ here → (here || holds_place entries place) ≡ true
        → (holds_place entries place ≡ true → holds_place others place ≡ false) → holds_place others place ≡ false
    by true is held rest = held_alike place entry others is ∙ not_true _ (and_parts _ _ all).0
    by false is held rest = rest held

pub goes_from_first : (place : Place) (entries others : List Entry) → AreApart entries others → holds_place entries place ≡ true
    → joined (without_entry place entries) others ≡ without_entry place (joined entries others)
goes_from_first place entries others apart held =
    sym (filter_joined (λ (entry : Entry). not (is_entry_at place entry)) entries others apart
    ∙ ap (joined (without_entry place entries)) (without_none place others (held_once place entries others apart.free held)))

pub goes_from_other : (place : Place) (entries others : List Entry) → AreApart entries others → holds_place entries place ≡ false
    → joined entries (without_entry place others) ≡ without_entry place (joined entries others)
goes_from_other place entries others apart free =
    sym (filter_joined (λ (entry : Entry). not (is_entry_at place entry)) entries others apart
    ∙ ap (λ (entries : List Entry). joined entries (without_entry place others)) (without_none place entries free))
