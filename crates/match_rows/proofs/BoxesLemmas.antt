-- Entries in boxes.
use Rattle.std.proofs.Common.{◌≡◌, ◌∙◌, ℕ, suc, ◌≤◌, ◌<◌, ◌+◌, ◌-◌, true, false, cond, List, [], ◌∷◌, ◌++◌, length, take, drop}
use Rattle.std.proofs.Common.{get_or, slice_get, Some, None, option_map, refl, sym, ap, ap₂, subst, arith}
use Rattle.std.specs.Global.{Box}
use Rattle.std.specs.List.{insert, remove, prefix_len, take-map, drop-map}
use Rattle.std.specs.List.Sorted.{IsPartitionedBy, IsPartitionPoint}
use Rattle.std.proofs.Math.ListN.{get_or-map}
use Rattle.std.proofs.lemmas.List.{map-append, length-map}
use Rattle.std.proofs.lemmas.List.Sums.{prefix_len_is}
use Rattle.std.proofs.lemmas.Option.{slice_get-map, slice_get_read, slice_get_past}
use Rattle.bmc_base.specs.Places.{Place}
use Rattle.probe_lang.specs.declared.rows.Entry.{Entry}
use Rattle.probe_lang.specs.Presents.{unboxed, are_by_place}
use Rattle.match_rows.specs.Rows.{count_before}
use Rattle.match_rows.proofs.PlacesLemmas.{is_before}
use Rattle.match_rows.proofs.RowsLemmas.{partitioned, front_by_place, all_before, counted_front}

abbrev pub value_of : Box Entry → Entry
value_of entry = entry.value

pub length_unboxed : (boxes : List (Box Entry)) → length (unboxed boxes) ≡ length boxes
length_unboxed boxes = length-map boxes value_of

pub unboxed_insert : (boxes : List (Box Entry)) (n : ℕ) (entry : Box Entry) → unboxed (insert boxes n entry) ≡ insert (unboxed boxes) n entry.value
unboxed_insert boxes n entry =
    map-append value_of (take n boxes) (entry ∷ drop n boxes)
    ∙ ap₂ (λ (front back : List Entry). front ++ entry.value ∷ back) (sym (take-map value_of n boxes)) (sym (drop-map value_of n boxes))

pub unboxed_remove : (boxes : List (Box Entry)) (n : ℕ) → unboxed (remove boxes n) ≡ remove (unboxed boxes) n
unboxed_remove boxes n =
    map-append value_of (take n boxes) (drop (suc n) boxes)
    ∙ ap₂ (λ (front back : List Entry). front ++ back) (sym (take-map value_of n boxes)) (sym (drop-map value_of (suc n) boxes))

-- those that come before a place stand before the others
pub boxes_partitioned : (place : Place) (boxes : List (Box Entry)) → are_by_place (unboxed boxes) ≡ true
    → IsPartitionedBy (λ (entry : Box Entry). is_before entry.value.place place) boxes
boxes_partitioned place boxes order m n default within below before =
    let entry_at : ℕ → Entry = λ k. get_or (unboxed boxes) k default.value in
    let at : (k : ℕ) → entry_at k ≡ (get_or boxes k default).value = λ k. get_or-map value_of boxes k default in
    sym (ap (λ (entry : Entry). is_before entry.place place) (at m))
    ∙ partitioned place (unboxed boxes) order m n default.value within (subst (λ (count : ℕ). n < count) (sym (length_unboxed boxes)) below)
    (ap (λ (entry : Entry). is_before entry.place place) (at n) ∙ before)

count_unboxed : (place : Place) (boxes : List (Box Entry))
    → prefix_len (λ (entry : Box Entry). is_before entry.value.place place) boxes ≡ count_before place (unboxed boxes)
count_unboxed place [] = refl
count_unboxed place (entry ∷ boxes) = ap (λ (later : ℕ). cond (is_before entry.value.place place) (1 + later) 0) (count_unboxed place boxes)

-- the partition point of the boxes is how many entries come before the place
pub boxes_count_is : (place : Place) (boxes : List (Box Entry)) (count : ℕ) → count ≤ length boxes
    → IsPartitionPoint (λ (entry : Box Entry). is_before entry.value.place place ≡ true) (λ (entry : Box Entry). is_before entry.value.place place ≡ false)
    boxes count
    → count ≡ count_before place (unboxed boxes)
boxes_count_is place [] count range point = omega (arith, range)
boxes_count_is place (entry ∷ boxes) count range point =
    sym (prefix_len_is (λ (other : Box Entry). is_before other.value.place place) (entry ∷ boxes) count entry range
    (λ n below. point.0 n entry (omega arith) below) (λ below. point.1 count entry (omega arith) below))
    ∙ count_unboxed place (entry ∷ boxes)

-- what stands at a position of the boxes
pub unboxed_at : (boxes : List (Box Entry)) (old : List Entry) (position count : ℕ) (entry : Box Entry) → unboxed boxes ≡ old → position ≡ count
    → position < length boxes → entry ≡ get_or boxes position entry → slice_get old count ≡ Some entry.value
unboxed_at boxes old position count entry same value below is =
    ap₂ (λ (entries : List Entry) (n : ℕ). slice_get entries n) (sym same) (sym value) ∙ slice_get-map value_of boxes position
    ∙ ap (option_map value_of) (slice_get_read boxes (length boxes) position entry refl below is)

pub unboxed_past : (boxes : List (Box Entry)) (old : List Entry) (position count : ℕ) → unboxed boxes ≡ old → position ≡ count
    → length boxes ≤ position → slice_get old count ≡ None
unboxed_past boxes old position count same value past =
    ap₂ (λ (entries : List Entry) (n : ℕ). slice_get entries n) (sym same) (sym value) ∙ slice_get-map value_of boxes position
    ∙ ap (option_map value_of) (slice_get_past boxes position past)

-- all boxes come before a place where the last of them does
pub boxes_all_before : (place : Place) (boxes : List (Box Entry)) (last : Box Entry) → are_by_place (unboxed boxes) ≡ true
    → slice_get boxes (length boxes - 1) ≡ Some last → is_before last.value.place place ≡ true → count_before place (unboxed boxes) ≡ length boxes
boxes_all_before place boxes last order at before =
    all_before place (unboxed boxes) (length boxes - 1) last.value order (ap (λ (count : ℕ). count - 1) (sym (length_unboxed boxes)))
    (slice_get-map value_of boxes (length boxes - 1) ∙ ap (option_map value_of) at) before
    ∙ length_unboxed boxes

-- the boxes at the front of those that are by place are by place
pub boxes_front_by_place : (boxes front back : List (Box Entry)) → boxes ≡ front ++ back → are_by_place (unboxed boxes) ≡ true
    → are_by_place (unboxed front) ≡ true
boxes_front_by_place boxes front back same order =
    front_by_place (unboxed front) (unboxed back)
    (sym (ap are_by_place (ap unboxed same ∙ map-append value_of front back)) ∙ order)

-- where all boxes at the front come before a place, and none of the others, so many do
pub boxes_counted : (place : Place) (boxes front back : List (Box Entry)) (count : ℕ) → boxes ≡ front ++ back → length front ≡ count
    → count_before place (unboxed front) ≡ length front → count_before place (unboxed back) ≡ 0 → count ≡ count_before place (unboxed boxes)
boxes_counted place boxes front back count same many all none =
    sym (ap (count_before place) (ap unboxed same ∙ map-append value_of front back)
    ∙ counted_front place (unboxed front) (unboxed back) (all ∙ sym (length_unboxed front)) none
    ∙ length_unboxed front ∙ many)
