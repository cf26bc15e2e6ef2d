-- Rows by place: with one more, and without one.
use Rattle.std.proofs.Common.{◌≡◌, ◌∙◌, ℕ, suc, ◌+◌, ◌-◌, ◌≤◌, ◌<◌, Bool, true, false, cond, not, ◌&&◌, ◌||◌, List, [], ◌∷◌, ◌++◌, length, get_or}
use Rattle.std.proofs.Common.{take, drop, Option, Some, None, refl, nat_lt, ap, ap₂, sym, arith}
use Rattle.std.specs.Prelude.{position, filter, IsSome}
use Rattle.std.specs.List.{list_all, list_any, insert, remove, position_or_len}
use Rattle.std.specs.Ordering.{is_lt, is_eq, ordering_reverse}
use Rattle.std.specs.declared.cmp.Ordering.{Ordering}
use Rattle.std.specs.declared.cmp.Ordering.TheVariants.{Less, Equal, Greater}
use Rattle.std.specs.Cmp.{IsTotalOrder}
use Rattle.std.proofs.lemmas.Cmp.{then_total, on_total, nat_cmp_total}
use Rattle.std.specs.Option.{unwrap_or}
use Rattle.std.proofs.Math.Seq.{take-length}
use Rattle.std.proofs.lemmas.Bool.{and_parts, or_parts}
use Rattle.std.proofs.lemmas.Bool.Decides.{nat_tests}
use Rattle.std.proofs.lemmas.List.{drop_more, length-drop, take-append-drop}
use Rattle.std.proofs.lemmas.List.Quantifiers.{position-Some}
use Rattle.std.proofs.lemmas.List.Sums.{position_or_len_is}
use Rattle.bmc_base.specs.Places.{Place, place_cmp}
use Rattle.found_set.specs.declared.row.Row.{Row}
use Rattle.found_set.specs.Rows.{is_row_at, is_row_after, holds_place, with_row, without_row, are_by_place}
use Rattle.found_set.proofs.NamedLemmas.{not_among}

place_total : IsTotalOrder place_cmp
place_total = then_total (on_total (λ (place : Place). place.bus) nat_cmp_total) (on_total (λ (place : Place). place.address) nat_cmp_total)

less : (order : Ordering) → is_lt order ≡ true → order ≡ Less
less Less given = refl
less Equal given = absurd (cc)
less Greater given = absurd (cc)

equal : (order : Ordering) → is_eq order ≡ true → order ≡ Equal
equal Less given = absurd (cc)
equal Equal given = refl
equal Greater given = absurd (cc)

turned : (order : Ordering) → is_lt order ≡ false → is_eq order ≡ false → is_lt (ordering_reverse order) ≡ true
turned Less not_less not_equal = absurd (cc)
turned Equal not_less not_equal = absurd (cc)
turned Greater not_less not_equal = refl

-- what comes after a later place
after_later : (place : Place) (row later : Row) → is_row_after place row ≡ true → is_row_after row.place later ≡ true → is_row_after place later ≡ true
after_later place row later first then = ap is_lt (place_total.trans place row.place later.place (less _ first) (less _ then))

-- a row that is neither at a place nor after it is before it
before_it : (row other : Row) → is_row_after row.place other ≡ false → is_row_at row.place other ≡ false → is_row_after other.place row ≡ true
before_it row other not_after not_at = ap is_lt (place_total.antisymm other.place row.place) ∙ turned _ not_after not_at

-- what comes after the row at a place is not at that place
not_at : (place : Place) (row later : Row) → is_row_at place row ≡ true → is_row_after row.place later ≡ true → is_row_at place later ≡ false
not_at place row later at after = ap is_eq (place_total.congr place row.place later.place (equal _ at) ∙ less _ after)

both_true : (left right : Bool) → left ≡ true → right ≡ true → (left && right) ≡ true
both_true left right first second = ap₂ (λ (x y : Bool). x && y) first second

all_as : (test other : Row → Bool) → ((row : Row) → test row ≡ true → other row ≡ true) → (rows : List Row) → list_all test rows ≡ true
    → list_all other rows ≡ true
all_as test other implies [] all = refl
all_as test other implies (row ∷ rows) all = let two = and_parts _ _ all in both_true _ _ (implies row two.0) (all_as test other implies rows two.1)

none_as : (test other : Row → Bool) → ((row : Row) → test row ≡ true → other row ≡ false) → (rows : List Row) → list_all test rows ≡ true
    → list_any other rows ≡ false
none_as test other implies [] all = refl
none_as test other implies (row ∷ rows) all =
    let two = and_parts _ _ all in ap₂ (λ (x y : Bool). x || y) (implies row two.0) (none_as test other implies rows two.1)

-- where none passes, all the others are all
pub none_filtered : (test : Row → Bool) (rows : List Row) → list_any test rows ≡ false → filter (λ (row : Row). not (test row)) rows ≡ rows
none_filtered test [] none = refl
none_filtered test (row ∷ rows) none =
    let two = or_parts _ _ none in
    ap₂ (λ (b : Bool) (rest : List Row). cond (not b) (row ∷ rest) rest) two.0 (none_filtered test rows two.1)

all_filtered : (test other : Row → Bool) (rows : List Row) → list_all test rows ≡ true → list_all test (filter other rows) ≡ true
all_filtered test other [] all = refl
all_filtered test other (row ∷ rows) all = let two = and_parts _ _ all in by (other row) two.0 (all_filtered test other rows two.1)
  where
    by : (passes : Bool) → test row ≡ true → list_all test (filter other rows) ≡ true
        → list_all test (cond passes (row ∷ filter other rows) (filter other rows)) ≡ true
    by true first rest = both_true _ _ first rest
    by false first rest = rest

next : (n : ℕ) → suc n ≡ 1 + n
next n = omega arith

-- one row more goes before the first at a later place
pub with_row_at : (row : Row) (rows : List Row) → with_row row rows ≡ insert rows (position_or_len (is_row_after row.place) rows) row
with_row_at row [] = refl
with_row_at row (other ∷ rows) = by (is_row_after row.place other) (with_row_at row rows)
  where
    by : (is_after : Bool) → with_row row rows ≡ insert rows (position_or_len (is_row_after row.place) rows) row
        → cond is_after (row ∷ other ∷ rows) (other ∷ with_row row rows) ≡ insert (other ∷ rows)
        (cond (not is_after) (1 + position_or_len (is_row_after row.place) rows) 0) row
    by true rest = refl
    by false rest =
        ap (λ (list : List Row). other ∷ list) rest ∙ ap (λ (n : ℕ). insert (other ∷ rows) n row) (next (position_or_len (is_row_after row.place) rows))

-- without a place is without the first row at it
without_first : (place : Place) (rows : List Row) → are_by_place rows ≡ true → without_row place rows ≡ remove rows (position_or_len (is_row_at place) rows)
without_first place [] ordered = refl
without_first place (row ∷ rows) ordered =
    let two = and_parts _ _ ordered in
    by (is_row_at place row)
    (λ at. none_filtered (is_row_at place) rows
    (none_as (is_row_after row.place) (is_row_at place) (λ later after. not_at place row later at after) rows two.0)) (without_first place rows two.1) refl
  where
    by : (is_at : Bool) → (is_at ≡ true → without_row place rows ≡ rows) → without_row place rows ≡ remove rows (position_or_len (is_row_at place) rows)
        → is_at ≡ is_at
        → cond (not is_at) (row ∷ without_row place rows) (without_row place rows) ≡ remove (row ∷ rows)
        (cond (not is_at) (1 + position_or_len (is_row_at place) rows) 0)
    by true here rest same = here refl
    by false here rest same = ap (λ (list : List Row). row ∷ list) rest ∙ ap (λ (n : ℕ). remove (row ∷ rows) n) (next (position_or_len (is_row_at place) rows))

pub without_row_at : (place : Place) (rows : List Row) (at : ℕ) (default : Row) → are_by_place rows ≡ true → position (is_row_at place) rows ≡ Some at
    → without_row place rows ≡ remove rows at
without_row_at place rows at default ordered told =
    let found = position-Some (is_row_at place) rows at default told in
    without_first place rows ordered
    ∙ ap (λ (n : ℕ). remove rows n) (position_or_len_is (is_row_at place) rows at default (omega (arith, found.0)) found.2 (λ k. found.1))

-- the rows from a position to the end
to_end : (rows : List Row) (n : ℕ) → take (length rows - n) (drop n rows) ≡ drop n rows
to_end rows n = ap (λ (m : ℕ). take m (drop n rows)) (sym (length-drop n rows)) ∙ take-length (drop n rows)

-- what is before a position, a row, and what is behind
pub with_sliced : (row : Row) (rows : List Row) (at : ℕ) → at ≡ position_or_len (is_row_after row.place) rows
    → (take at rows ++ row ∷ take (length rows - at) (drop at rows)) ≡ with_row row rows
with_sliced row rows at is_first =
    ap (λ (rest : List Row). take at rows ++ row ∷ rest) (to_end rows at) ∙ ap (λ (n : ℕ). insert rows n row) is_first ∙ sym (with_row_at row rows)

-- what is before the first row at a place, and what is behind it
pub without_sliced : (place : Place) (rows : List Row) (at : ℕ) (default : Row) → are_by_place rows ≡ true → position (is_row_at place) rows ≡ Some at
    → (take at rows ++ take (length rows - (at + 1)) (drop (at + 1) rows)) ≡ without_row place rows
without_sliced place rows at default ordered found =
    let one_more : at + 1 ≡ suc at = omega arith in
    ap (λ (rest : List Row). take at rows ++ rest) (to_end rows (at + 1) ∙ ap (λ (n : ℕ). drop n rows) one_more)
    ∙ sym (without_row_at place rows at default ordered found)

-- rows stay by place
after_all : (test : Row → Bool) (row : Row) (rows : List Row) → test row ≡ true → list_all test rows ≡ true → list_all test (with_row row rows) ≡ true
after_all test row [] passes all = both_true _ _ passes refl
after_all test row (other ∷ rows) passes all = let two = and_parts _ _ all in by (is_row_after row.place other) two.0 (after_all test row rows passes two.1) all
  where
    by : (is_after : Bool) → test other ≡ true → list_all test (with_row row rows) ≡ true → list_all test (other ∷ rows) ≡ true
        → list_all test (cond is_after (row ∷ other ∷ rows) (other ∷ with_row row rows)) ≡ true
    by true first rest all = both_true _ _ passes all
    by false first rest all = both_true _ _ first rest

pub by_place_with : (row : Row) (rows : List Row) → are_by_place rows ≡ true → holds_place rows row.place ≡ false → are_by_place (with_row row rows) ≡ true
by_place_with row [] ordered free = refl
by_place_with row (other ∷ rows) ordered free =
    let two = and_parts _ _ ordered in
    let apart = or_parts _ _ free in
    by (is_row_after row.place other)
    (λ before. both_true _ _
    (both_true _ _ before
    (all_as (is_row_after other.place) (is_row_after row.place) (λ later behind. after_later row.place other later before behind) rows two.0)) ordered)
    (λ behind. both_true _ _ (after_all (is_row_after other.place) row rows (before_it row other behind apart.0) two.0)
    (by_place_with row rows two.1 apart.1)) refl
  where
    by : (is_after : Bool) → (is_after ≡ true → are_by_place (row ∷ other ∷ rows) ≡ true) → (is_after ≡ false → are_by_place (other ∷ with_row row rows) ≡ true)
        → is_after ≡ is_after
        → are_by_place (cond is_after (row ∷ other ∷ rows) (other ∷ with_row row rows)) ≡ true
    by true before behind same = before refl
    by false before behind same = behind refl

pub by_place_without : (place : Place) (rows : List Row) → are_by_place rows ≡ true → are_by_place (without_row place rows) ≡ true
by_place_without place [] ordered = refl
by_place_without place (row ∷ rows) ordered =
    let two = and_parts _ _ ordered in
    by (not (is_row_at place row)) (all_filtered (is_row_after row.place) (λ (other : Row). not (is_row_at place other)) rows two.0)
    (by_place_without place rows two.1)
  where
    by : (stays : Bool) → list_all (is_row_after row.place) (without_row place rows) ≡ true → are_by_place (without_row place rows) ≡ true
        → are_by_place (cond stays (row ∷ without_row place rows) (without_row place rows)) ≡ true
    by true first rest = both_true _ _ first rest
    by false first rest = rest

-- where a row passes, the first that does has a position
pub is_there : (test : Row → Bool) (rows : List Row) → list_any test rows ≡ true → IsSome (position test rows)
is_there test rows passes = by (position test rows) refl
  where
    by : (found : Option ℕ) → position test rows ≡ found → IsSome found
    by None absent = absurd (cc (not_among test rows absent))
    by (Some at) told = refl

-- the first that passes, or the end, is within
pub within : (test : Row → Bool) (rows : List Row) → position_or_len test rows ≤ length rows
within test [] = omega arith
within test (row ∷ rows) = by (test row) (within test rows)
  where
    by : (passes : Bool) → position_or_len test rows ≤ length rows → cond (not passes) (1 + position_or_len test rows) 0 ≤ length (row ∷ rows)
    by true rest = omega arith
    by false rest = omega arith

-- the first that passes, or the end
pub first_or_end : (test : Row → Bool) (rows : List Row) → unwrap_or (position test rows) (length rows) ≡ position_or_len test rows
first_or_end test rows =
    by (nat_lt (position_or_len test rows) (length rows)) (λ no. let far : length rows ≤ position_or_len test rows = grind (arith, nat_tests) in
    omega (arith, within test rows))
  where
    by : (is_within : Bool) → (is_within ≡ false → length rows ≡ position_or_len test rows)
        → unwrap_or (cond is_within (Some (position_or_len test rows)) None) (length rows) ≡ position_or_len test rows
    by true past = refl
    by false past = past refl

pub first_within : (test : Row → Bool) (rows : List Row) → unwrap_or (position test rows) (length rows) ≤ length rows
first_within test rows = let same = first_or_end test rows in omega (arith, within test rows)

-- what is before a position, and the rest
pub all_sliced : (rows : List Row) (at : ℕ) → (take at rows ++ take (length rows - at) (drop at rows)) ≡ rows
all_sliced rows at = ap (λ (rest : List Row). take at rows ++ rest) (to_end rows at) ∙ take-append-drop at rows

-- what is before a row, the row, and the rest
pub sliced_around : (row : Row) (rows : List Row) (at : ℕ) → at < length rows → row ≡ get_or rows at row
    → rows ≡ take at rows ++ row ∷ take (length rows - (at + 1)) (drop (at + 1) rows)
sliced_around row rows at below is =
    sym (take-append-drop at rows) ∙ ap (λ (rest : List Row). take at rows ++ rest) (drop_more rows at row below
    ∙ ap₂ (λ (first : Row) (rest : List Row). first ∷ rest) (sym is) (sym (to_end rows (at + 1))))
