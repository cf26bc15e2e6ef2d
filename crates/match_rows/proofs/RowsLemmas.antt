-- Entries by place.
use Rattle.std.proofs.Common.{◌≡◌, ◌∙◌, ℕ, zero, suc, ◌+◌, ◌-◌, ◌<◌}
use Rattle.std.proofs.Common.{Bool, true, false, not, cond, ◌||◌, List, [], ◌∷◌, ◌++◌, length, slice_get, get_or, Option, Some, None}
use Rattle.std.proofs.Common.{refl, sym, ap, ap₂, arith}
use Rattle.std.specs.List.{list_all, insert, remove, find}
use Rattle.std.specs.Option.{is_some}
use Rattle.std.specs.List.Sorted.{IsPartitionedBy}
use Rattle.std.proofs.lemmas.Bool.{and_parts, and_from, or_parts, or_from}
use Rattle.std.proofs.lemmas.List.Folds.{list_all-append}
use Rattle.std.proofs.lemmas.Map.Entries.{option_filter}
use Rattle.std.proofs.lemmas.Option.{same_Some}
use Rattle.bmc_base.specs.Places.{Place, place_eq}
use Rattle.probe_lang.specs.declared.rows.Entry.{Entry}
use Rattle.probe_lang.specs.Presents.{is_entry_at, holds_place, with_entry, without_entry, are_by_place}
use Rattle.match_rows.specs.Rows.{count_before}
use Rattle.match_rows.proofs.PlacesLemmas.{is_before, before_trans, other_way, before_differs, behind_differs, equal_is_same}

abbrev are_behind : Place → List Entry → Bool
are_behind place entries = list_all (λ (later : Entry). is_before place later.place) entries

behind_from : (place other : Place) (entries : List Entry) → is_before place other ≡ true → are_behind other entries ≡ true
    → are_behind place entries ≡ true
behind_from place other [] before behind = refl
behind_from place other (entry ∷ entries) before behind =
    let parts = and_parts _ _ behind in
    and_from _ _ (before_trans place other entry.place before parts.0) (behind_from place other entries before parts.1)

behind_at : (place : Place) (entries : List Entry) (n : ℕ) (default : Entry) → are_behind place entries ≡ true → n < length entries
    → is_before place (get_or entries n default).place ≡ true
behind_at place [] n default behind below = absurd (omega (arith, below))
behind_at place (entry ∷ entries) zero default behind below = (and_parts _ _ behind).0
behind_at place (entry ∷ entries) (suc n) default behind below = behind_at place entries n default (and_parts _ _ behind).1 (omega (arith, below))

-- no entry is at a place behind one that does not come before it
none_behind : (first place : Place) (entries : List Entry) → is_before first place ≡ false → are_behind first entries ≡ true
    → holds_place entries place ≡ false
none_behind first place [] late behind = refl
none_behind first place (entry ∷ entries) late behind =
    let parts = and_parts _ _ behind in
    or_from _ _ (behind_differs first place entry.place late parts.0) (none_behind first place entries late parts.1)

-- where no entry is at a place, none is found and none goes
find_none : (place : Place) (entries : List Entry) → holds_place entries place ≡ false → find (is_entry_at place) entries ≡ None
find_none place [] free = refl
find_none place (entry ∷ entries) free =
    let parts = or_parts _ _ free in
    ap₂ (λ (here : Bool) (later : Option Entry). cond here (Some entry) later) parts.0 (find_none place entries parts.1)

pub without_none : (place : Place) (entries : List Entry) → holds_place entries place ≡ false → without_entry place entries ≡ entries
without_none place [] free = refl
without_none place (entry ∷ entries) free =
    let parts = or_parts _ _ free in
    ap₂ (λ (here : Bool) (later : List Entry). cond (not here) (entry ∷ later) later) parts.0 (without_none place entries parts.1)

-- those that come before a place stand before the others
pub partitioned : (place : Place) (entries : List Entry) → are_by_place entries ≡ true
    → IsPartitionedBy (λ (entry : Entry). is_before entry.place place) entries
partitioned place [] order m n default within below before = absurd (omega (arith, below))
partitioned place (entry ∷ entries) order zero zero default within below before = before
partitioned place (entry ∷ entries) order zero (suc n) default within below before =
    let other = (get_or entries n default).place in
    before_trans entry.place other place (behind_at entry.place entries n default (and_parts _ _ order).0 (omega (arith, below))) before
partitioned place (entry ∷ entries) order (suc m) zero default within below before = absurd (omega (arith, within))
partitioned place (entry ∷ entries) order (suc m) (suc n) default within below before =
    partitioned place entries (and_parts _ _ order).1 m n default (omega (arith, within)) (omega (arith, below)) before

-- an entry at a free place goes behind those that come before it
pub with_entry_at : (entry : Entry) (entries : List Entry) → holds_place entries entry.place ≡ false
    → insert entries (count_before entry.place entries) entry ≡ with_entry entry entries
with_entry_at entry [] free = refl
with_entry_at entry (other ∷ entries) free =
    let parts = or_parts _ _ free in
    by (is_before other.place entry.place) (with_entry_at entry entries parts.1)
    ∙ ap (λ (before : Bool). cond before (entry ∷ other ∷ entries) (other ∷ with_entry entry entries)) (sym (other_way entry.place other.place parts.0))
  where
    by : (later : Bool) → insert entries (count_before entry.place entries) entry ≡ with_entry entry entries
        → insert (other ∷ entries) (cond later (1 + count_before entry.place entries) 0) entry
        ≡ cond (not later) (entry ∷ other ∷ entries) (other ∷ with_entry entry entries)
    by true rest =
        let next : 1 + count_before entry.place entries ≡ suc (count_before entry.place entries) = omega arith in
        ap (λ (n : ℕ). insert (other ∷ entries) n entry) next ∙ ap (λ (later : List Entry). other ∷ later) rest
    by false rest = refl

behind_with : (place : Place) (entry : Entry) (entries : List Entry) → is_before place entry.place ≡ true → are_behind place entries ≡ true
    → are_behind place (with_entry entry entries) ≡ true
behind_with place entry [] before behind = and_from _ _ before refl
behind_with place entry (other ∷ entries) before behind =
    by (is_before entry.place other.place) (behind_with place entry entries before (and_parts _ _ behind).1)
  where
    by : (first : Bool) → are_behind place (with_entry entry entries) ≡ true
        → are_behind place (cond first (entry ∷ other ∷ entries) (other ∷ with_entry entry entries)) ≡ true
    by true rest = and_from _ _ before behind
    by false rest = and_from _ _ (and_parts _ _ behind).0 rest

-- one entry more leaves all in order
pub with_entry_by_place : (entry : Entry) (entries : List Entry) → are_by_place entries ≡ true → holds_place entries entry.place ≡ false
    → are_by_place (with_entry entry entries) ≡ true
with_entry_by_place entry [] order free = refl
with_entry_by_place entry (other ∷ entries) order free =
    by (is_before entry.place other.place) refl (with_entry_by_place entry entries (and_parts _ _ order).1 (or_parts _ _ free).1)
  where
    true_from : (answer : Bool) → not answer ≡ false → answer ≡ true
    true_from true is = refl
    true_from false is = absurd (cc)

    by : (first : Bool) → is_before entry.place other.place ≡ first → are_by_place (with_entry entry entries) ≡ true
        → are_by_place (cond first (entry ∷ other ∷ entries) (other ∷ with_entry entry entries)) ≡ true
    by true before rest = and_from _ _ (and_from _ _ before (behind_from entry.place other.place entries before (and_parts _ _ order).0)) order
    by false late rest =
        let before = true_from (is_before other.place entry.place) (sym (other_way entry.place other.place (or_parts _ _ free).0) ∙ late) in
        and_from _ _ (behind_with other.place entry entries before (and_parts _ _ order).0) rest

behind_without : (first place : Place) (entries : List Entry) → are_behind first entries ≡ true → are_behind first (without_entry place entries) ≡ true
behind_without first place [] behind = refl
behind_without first place (entry ∷ entries) behind = by (is_entry_at place entry) (behind_without first place entries (and_parts _ _ behind).1)
  where
    by : (here : Bool) → are_behind first (without_entry place entries) ≡ true
        → are_behind first (cond (not here) (entry ∷ without_entry place entries) (without_entry place entries)) ≡ true
    by true rest = rest
    by false rest = and_from _ _ (and_parts _ _ behind).0 rest

-- one entry less leaves the others in order
pub without_entry_by_place : (place : Place) (entries : List Entry) → are_by_place entries ≡ true → are_by_place (without_entry place entries) ≡ true
without_entry_by_place place [] order = refl
without_entry_by_place place (entry ∷ entries) order = by (is_entry_at place entry) (without_entry_by_place place entries (and_parts _ _ order).1)
  where
    by : (here : Bool) → are_by_place (without_entry place entries) ≡ true
        → are_by_place (cond (not here) (entry ∷ without_entry place entries) (without_entry place entries)) ≡ true
    by true rest = rest
    by false rest = and_from _ _ (behind_without entry.place place entries (and_parts _ _ order).0) rest

-- a place that is held is held behind an entry that comes before it, and else by the first entry
held_later : (place : Place) (entry : Entry) (entries : List Entry) → is_before entry.place place ≡ true → holds_place (entry ∷ entries) place ≡ true
    → holds_place entries place ≡ true
held_later place entry entries before held = ap (λ (here : Bool). here || holds_place entries place) (sym (before_differs place entry.place before)) ∙ held

held_here : (place : Place) (entry : Entry) (entries : List Entry) → are_by_place (entry ∷ entries) ≡ true → is_before entry.place place ≡ false
    → holds_place (entry ∷ entries) place ≡ true
    → is_entry_at place entry ≡ true
held_here place entry entries order late held =
    by (is_entry_at place entry) (holds_place entries place) (none_behind entry.place place entries late (and_parts _ _ order).0) held
  where
    by : (here later : Bool) → later ≡ false → (here || later) ≡ true → here ≡ true
    by true later none held = refl
    by false later none held = absurd (cc)

pub count_below : (place : Place) (entries : List Entry) → holds_place entries place ≡ true → count_before place entries < length entries
count_below place [] held = absurd (cc)
count_below place (entry ∷ entries) held = by (is_before entry.place place) refl (count_below place entries)
  where
    by : (before : Bool) → is_before entry.place place ≡ before → (holds_place entries place ≡ true → count_before place entries < length entries)
        → cond before (1 + count_before place entries) 0 < suc (length entries)
    by true before later = let below = later (held_later place entry entries before held) in omega (arith, below)
    by false late later = omega arith

pub find_held : (place : Place) (entries : List Entry) → are_by_place entries ≡ true → holds_place entries place ≡ true
    → find (is_entry_at place) entries ≡ slice_get entries (count_before place entries)
find_held place [] order held = absurd (cc)
find_held place (entry ∷ entries) order held = by (is_before entry.place place) refl (find_held place entries (and_parts _ _ order).1)
  where
    by : (before : Bool) → is_before entry.place place ≡ before
        → (holds_place entries place ≡ true → find (is_entry_at place) entries ≡ slice_get entries (count_before place entries))
        → find (is_entry_at place) (entry ∷ entries) ≡ slice_get (entry ∷ entries) (cond before (1 + count_before place entries) 0)
    by true before later =
        let next : suc (count_before place entries) ≡ 1 + count_before place entries = omega arith in
        ap (λ (here : Bool). cond here (Some entry) (find (is_entry_at place) entries)) (before_differs place entry.place before)
        ∙ later (held_later place entry entries before held) ∙ ap (λ (n : ℕ). slice_get (entry ∷ entries) n) next
    by false late later = ap (λ (here : Bool). cond here (Some entry) (find (is_entry_at place) entries)) (held_here place entry entries order late held)

pub without_entry_at : (place : Place) (entries : List Entry) → are_by_place entries ≡ true → holds_place entries place ≡ true
    → remove entries (count_before place entries) ≡ without_entry place entries
without_entry_at place [] order held = absurd (cc)
without_entry_at place (entry ∷ entries) order held = by (is_before entry.place place) refl (without_entry_at place entries (and_parts _ _ order).1)
  where
    by : (before : Bool) → is_before entry.place place ≡ before
        → (holds_place entries place ≡ true → remove entries (count_before place entries) ≡ without_entry place entries)
        → remove (entry ∷ entries) (cond before (1 + count_before place entries) 0)
        ≡ cond (not (is_entry_at place entry)) (entry ∷ without_entry place entries) (without_entry place entries)
    by true before later =
        let next : 1 + count_before place entries ≡ suc (count_before place entries) = omega arith in
        ap (λ (n : ℕ). remove (entry ∷ entries) n) next ∙ ap (λ (rest : List Entry). entry ∷ rest) (later (held_later place entry entries before held))
        ∙ ap (λ (here : Bool). cond (not here) (entry ∷ without_entry place entries) (without_entry place entries))
        (sym (before_differs place entry.place before))
    by false late later =
        sym (without_none place entries (none_behind entry.place place entries late (and_parts _ _ order).0))
        ∙ ap (λ (here : Bool). cond (not here) (entry ∷ without_entry place entries) (without_entry place entries))
        (sym (held_here place entry entries order late held))

-- the entry at a place, if there is one, stands behind those that come before the place
find_at : (place : Place) (entries : List Entry) → are_by_place entries ≡ true
    → find (is_entry_at place) entries ≡ option_filter (is_entry_at place) (slice_get entries (count_before place entries))
find_at place [] order = refl
find_at place (entry ∷ entries) order = by (is_before entry.place place) refl (find_at place entries (and_parts _ _ order).1)
  where
    by : (before : Bool) → is_before entry.place place ≡ before
        → find (is_entry_at place) entries ≡ option_filter (is_entry_at place) (slice_get entries (count_before place entries))
        → find (is_entry_at place) (entry ∷ entries)
        ≡ option_filter (is_entry_at place) (slice_get (entry ∷ entries) (cond before (1 + count_before place entries) 0))
    by true before rest =
        let next : suc (count_before place entries) ≡ 1 + count_before place entries = omega arith in
        ap (λ (here : Bool). cond here (Some entry) (find (is_entry_at place) entries)) (before_differs place entry.place before) ∙ rest
        ∙ ap (λ (n : ℕ). option_filter (is_entry_at place) (slice_get (entry ∷ entries) n)) next
    by false late rest =
        ap (λ (later : Option Entry). cond (is_entry_at place entry) (Some entry) later)
        (find_none place entries (none_behind entry.place place entries late (and_parts _ _ order).0))

pub found_past : (place : Place) (entries : List Entry) → are_by_place entries ≡ true → slice_get entries (count_before place entries) ≡ None
    → find (is_entry_at place) entries ≡ None
found_past place entries order past = find_at place entries order ∙ ap (option_filter (is_entry_at place)) past

pub found_or_not : (place : Place) (entries : List Entry) (entry : Entry) (here : Bool) → are_by_place entries ≡ true
    → slice_get entries (count_before place entries) ≡ Some entry
    → place_eq entry.place place ≡ here → find (is_entry_at place) entries ≡ cond here (Some entry) None
found_or_not place entries entry here order at answer =
    find_at place entries order ∙ ap (option_filter (is_entry_at place)) at
    ∙ ap (λ (here : Bool). cond here (Some entry) None) (sym (equal_is_same place entry.place) ∙ answer)

-- an entry is found exactly where its place is held
pub found_is_held : (place : Place) (entries : List Entry) → is_some (find (is_entry_at place) entries) ≡ holds_place entries place
found_is_held place [] = refl
found_is_held place (entry ∷ entries) = by (is_entry_at place entry) (found_is_held place entries)
  where
    by : (here : Bool) → is_some (find (is_entry_at place) entries) ≡ holds_place entries place
        → is_some (cond here (Some entry) (find (is_entry_at place) entries)) ≡ (here || holds_place entries place)
    by true rest = refl
    by false rest = rest

-- ---- entries in two parts

-- the entries at the front of those that are by place are by place
pub front_by_place : (front back : List Entry) → are_by_place (front ++ back) ≡ true → are_by_place front ≡ true
front_by_place [] back order = refl
front_by_place (entry ∷ front) back order =
    let parts = and_parts _ _ order in
    let behind = and_parts _ _ (sym (list_all-append (λ (later : Entry). is_before entry.place later.place) front back) ∙ parts.0) in
    and_from _ _ behind.0 (front_by_place front back parts.1)

-- all entries come before a place where the last of them does
pub all_before : (place : Place) (entries : List Entry) (n : ℕ) (last : Entry) → are_by_place entries ≡ true → n ≡ length entries - 1
    → slice_get entries n ≡ Some last → is_before last.place place ≡ true → count_before place entries ≡ length entries
all_before place [] n last order is at before = refl
all_before place (entry ∷ []) zero last order is at before =
    let same : entry ≡ last = same_Some _ _ at in
    ap (λ (entry : Entry). cond (is_before entry.place place) 1 0) same ∙ ap (λ (first : Bool). cond first 1 0) before
all_before place (entry ∷ []) (suc n) last order is at before = absurd (omega (arith, is))
all_before place (entry ∷ next ∷ more) zero last order is at before = absurd (omega (arith, is))
all_before place (entry ∷ next ∷ more) (suc n) last order is at before =
    by (is_before next.place place) refl (all_before place (next ∷ more) n last (and_parts _ _ order).1 (omega (arith, is)) at before)
  where
    by : (first : Bool) → is_before next.place place ≡ first → count_before place (next ∷ more) ≡ suc (length more)
        → count_before place (entry ∷ next ∷ more) ≡ suc (suc (length more))
    by true passes rest =
        let ahead : is_before entry.place next.place ≡ true = (and_parts _ _ (and_parts _ _ order).0).0 in
        ap (λ (first : Bool). cond first (1 + count_before place (next ∷ more)) 0) (before_trans entry.place next.place place ahead passes)
        ∙ omega (arith, rest)
    by false late rest =
        absurd (let none = sym (ap (λ (first : Bool). cond first (1 + count_before place more) 0) late) ∙ rest in omega (arith, none))

-- where all entries at the front come before a place, and none of the others, it is the front that does
pub counted_front : (place : Place) (front back : List Entry) → count_before place front ≡ length front → count_before place back ≡ 0
    → count_before place (front ++ back) ≡ length front
counted_front place [] back all none = none
counted_front place (entry ∷ front) back all none = by (is_before entry.place place) all (λ here. counted_front place front back here none)
  where
    by : (first : Bool) → cond first (1 + count_before place front) 0 ≡ suc (length front)
        → (count_before place front ≡ length front → count_before place (front ++ back) ≡ length front)
        → cond first (1 + count_before place (front ++ back)) 0 ≡ suc (length front)
    by true all rest =
        let here : count_before place front ≡ length front = omega (arith, all) in
        let later = rest here in
        omega (arith, later)
    by false all rest = absurd (omega (arith, all))
