-- Entries by place: with one more among them, and without one.
use Rattle.std.proofs.Common.{◌≡◌, ◌∙◌, ℕ, suc, ◌+◌, ◌-◌, ◌<◌, ◌≤◌, Bool, true, false, List, [], ◌∷◌, ◌++◌, length, take, drop, get_or}
use Rattle.std.proofs.Common.{Option, Some, None, option_map, cond, append_assoc, refl, sym, ap, ap₂, arith, length-drop}
use Rattle.std.specs.Global.{Box}
use Rattle.std.specs.Option.{is_some, option_or}
use Rattle.std.specs.List.{remove, find}
use Rattle.std.proofs.lemmas.Bool.{and_parts, and_from}
use Rattle.std.proofs.lemmas.List.{append-nil, take_all, take-map, drop-map}
use Rattle.std.proofs.lemmas.List.Folds.{list_all-append, find-append}
use Rattle.bmc_base.specs.Places.{Place, place_eq}
use Rattle.fru_area.specs.declared.field.Field.{Field}
use Rattle.probe_lang.specs.declared.rows.Entry.{Entry}
use Rattle.probe_lang.specs.Presents.{unboxed, is_entry_at, holds_place, with_entry, without_entry, are_by_place}
use Rattle.match_rows.specs.Rows.{count_before}
use Rattle.match_rows.proofs.PlacesLemmas.{is_before}
use Rattle.match_rows.proofs.RowsLemmas.{with_entry_at, without_entry_at, without_none, found_past, found_or_not, found_is_held}
use Rattle.match_rows.proofs.BoxesLemmas.{value_of, unboxed_at, unboxed_past}

-- the parts of the entries, with an entry between them
pub with_parts : (entry : Entry) (boxes : List (Box Entry)) (at : ℕ) (front back : List (Box Entry)) → holds_place (unboxed boxes) entry.place ≡ false
    → at ≡ count_before entry.place (unboxed boxes) → front ≡ take at boxes → back ≡ drop at boxes
    → unboxed front ++ entry ∷ [] ++ unboxed back ≡ with_entry entry (unboxed boxes)
with_parts entry boxes at front back free is fore aft =
    append_assoc (unboxed front) (entry ∷ []) (unboxed back)
    ∙ ap₂ (λ (one other : List Entry). one ++ entry ∷ other)
    (ap unboxed fore ∙ sym (take-map value_of at boxes) ∙ ap (λ (n : ℕ). take n (unboxed boxes)) is)
    (ap unboxed aft ∙ sym (drop-map value_of at boxes) ∙ ap (λ (n : ℕ). drop n (unboxed boxes)) is)
    ∙ with_entry_at entry (unboxed boxes) free

-- whether the place is held is whether the entry behind those that come before the place is at the place
held_at : (place : Place) (boxes : List (Box Entry)) (at : ℕ) (entry : Box Entry) (here : Bool) → are_by_place (unboxed boxes) ≡ true
    → at ≡ count_before place (unboxed boxes) → at < length boxes → entry ≡ get_or boxes at entry → place_eq entry.value.place place ≡ here
    → holds_place (unboxed boxes) place ≡ here
held_at place boxes at entry here order is within stands same =
    sym (found_is_held place (unboxed boxes))
    ∙ ap is_some (found_or_not place (unboxed boxes) entry.value here order (unboxed_at boxes _ at _ entry refl is within stands) same) ∙ by here
  where
    by : (here : Bool) → is_some (cond here (Some entry.value) None) ≡ here
    by true = refl
    by false = refl

-- the parts of the entries, without the entry between them
pub without_parts : (place : Place) (boxes : List (Box Entry)) (at : ℕ) (entry : Box Entry) → are_by_place (unboxed boxes) ≡ true
    → at ≡ count_before place (unboxed boxes) → at < length boxes → entry ≡ get_or boxes at entry → place_eq entry.value.place place ≡ true
    → unboxed (take at boxes) ++ [] ++ unboxed (take (length boxes - (at + 1)) (drop (at + 1) boxes)) ≡ without_entry place (unboxed boxes)
without_parts place boxes at entry order is within stands here =
    let next : at + 1 ≡ suc at = omega arith in
    let all : length (drop (at + 1) boxes) ≤ length boxes - (at + 1) = omega (arith, length-drop (at + 1) boxes) in
    ap₂ (λ (one other : List Entry). one ++ other)
    (append-nil (unboxed (take at boxes)) ∙ sym (take-map value_of at boxes))
    (ap unboxed (take_all (length boxes - (at + 1)) (drop (at + 1) boxes) all ∙ ap (λ (n : ℕ). drop n boxes) next) ∙ sym (drop-map value_of (suc at) boxes))
    ∙ ap (remove (unboxed boxes)) is
    ∙ without_entry_at place (unboxed boxes) order (held_at place boxes at entry true order is within stands here)

pub without_nothing : (place : Place) (boxes : List (Box Entry)) (at : ℕ) → are_by_place (unboxed boxes) ≡ true → at ≡ count_before place (unboxed boxes)
    → length boxes ≤ at → unboxed boxes ≡ without_entry place (unboxed boxes)
without_nothing place boxes at order is past =
    let absent = found_past place (unboxed boxes) order (unboxed_past boxes _ at _ refl is past) in
    sym (without_none place (unboxed boxes) (sym (found_is_held place (unboxed boxes)) ∙ ap is_some absent))

pub without_other : (place : Place) (boxes : List (Box Entry)) (at : ℕ) (entry : Box Entry) → are_by_place (unboxed boxes) ≡ true
    → at ≡ count_before place (unboxed boxes) → at < length boxes → entry ≡ get_or boxes at entry → place_eq entry.value.place place ≡ false
    → unboxed boxes ≡ without_entry place (unboxed boxes)
without_other place boxes at entry order is within stands other =
    sym (without_none place (unboxed boxes) (held_at place boxes at entry false order is within stands other))

-- ---- the entry at a place

-- the parts of entries that are by place are by place
front_by_place : (front back : List Entry) → are_by_place (front ++ back) ≡ true → are_by_place front ≡ true
front_by_place [] back order = refl
front_by_place (entry ∷ front) back order =
    let parts = and_parts _ _ order in
    let behind = and_parts _ _ (sym (list_all-append (λ (later : Entry). is_before entry.place later.place) front back) ∙ parts.0) in
    and_from _ _ behind.0 (front_by_place front back parts.1)

back_by_place : (front back : List Entry) → are_by_place (front ++ back) ≡ true → are_by_place back ≡ true
back_by_place [] back order = order
back_by_place (entry ∷ front) back order = back_by_place front back (and_parts _ _ order).1

pub three_by_place : (before plus behind : List Entry) → are_by_place (before ++ plus ++ behind) ≡ true
    → (are_by_place before ≡ true) × (are_by_place plus ≡ true) × (are_by_place behind ≡ true)
three_by_place before plus behind order =
    let front = front_by_place (before ++ plus) behind order in
    (front_by_place before plus front, back_by_place before plus front, back_by_place (before ++ plus) behind order)

-- the fields that are found in one of three parts
module _ (place : Place) (before plus behind : List Entry) where
  abbrev fields_in : List Entry → Option (List Field)
  fields_in entries = option_map (λ (entry : Entry). entry.fru) (find (is_entry_at place) entries)

  parted : find (is_entry_at place) (before ++ plus ++ behind)
      ≡ option_or (option_or (find (is_entry_at place) before) (find (is_entry_at place) plus)) (find (is_entry_at place) behind)
  parted =
      find-append (is_entry_at place) (before ++ plus) behind
      ∙ ap (λ (found : Option Entry). option_or found (find (is_entry_at place) behind)) (find-append (is_entry_at place) before plus)

  pub found_before : (entry : Entry) → Some entry ≡ find (is_entry_at place) before → Some entry.fru ≡ fields_in (before ++ plus ++ behind)
  found_before entry is =
      ap (option_map (λ (entry : Entry). entry.fru))
      (ap (λ (found : Option Entry). option_or (option_or found (find (is_entry_at place) plus)) (find (is_entry_at place) behind)) is ∙ sym parted)

  pub found_plus : (entry : Entry) → None ≡ find (is_entry_at place) before → Some entry ≡ find (is_entry_at place) plus
      → Some entry.fru ≡ fields_in (before ++ plus ++ behind)
  found_plus entry none is =
      ap (option_map (λ (entry : Entry). entry.fru))
      (ap₂ (λ (one other : Option Entry). option_or (option_or one other) (find (is_entry_at place) behind)) none is ∙ sym parted)

  pub found_behind : (found : Option Entry) → None ≡ find (is_entry_at place) before → None ≡ find (is_entry_at place) plus
      → found ≡ find (is_entry_at place) behind
      → option_map (λ (entry : Entry). entry.fru) found ≡ fields_in (before ++ plus ++ behind)
  found_behind found none no_plus is =
      ap (option_map (λ (entry : Entry). entry.fru))
      (is ∙ ap₂ (λ (one other : Option Entry). option_or (option_or one other) (find (is_entry_at place) behind)) none no_plus ∙ sym parted)
