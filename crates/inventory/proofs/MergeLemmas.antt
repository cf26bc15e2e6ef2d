-- Two lists of boards that ascend are gone through together.
use Rattle.std.proofs.Common.{◌≡◌, ◌∙◌, ℕ, suc, ◌+◌, ◌<◌, Bool, true, false, cond, ◌||◌, List, [], ◌∷◌, ◌++◌, Option, Some, None, map, length}
use Rattle.std.proofs.Common.{take, drop, get_or, refl, sym, ap, ap₂, subst, arith}
use Rattle.std.specs.Option.{option_eq, option_cmp}
use Rattle.std.specs.List.{list_all, AllByRecursion}
use Rattle.std.specs.List.Sorted.{IsStrictlySortedBy}
use Rattle.std.specs.Ordering.{is_lt, is_eq, ordering_reverse}
use Rattle.std.specs.declared.cmp.Ordering.{Ordering}
use Rattle.std.specs.declared.cmp.Ordering.TheVariants.{Less, Equal, Greater}
use Rattle.std.proofs.lemmas.Bool.{and_parts}
use Rattle.std.proofs.Math.Seq.{drop-cons}
use Rattle.bmc_base.specs.Places.{Place, place_cmp, place_eq}
use Rattle.probe_lang.specs.declared.rows.Entry.{Entry}
use Rattle.probe_lang.specs.Sights.{Sight, entry_sight}
use Rattle.probe_lang.specs.Presents.{are_by_place}
use Rattle.match_rows.proofs.PlacesLemmas.{place_total}
use Rattle.inventory.specs.declared.board.BoardKey.{BoardKey}
use Rattle.inventory.specs.Boards.{has_board, hit_places}
use Rattle.inventory.specs.Differences.{Moment, key_of}
use Rattle.inventory.specs.Moments.{found_boards, left, skip_before, is_first, AreAscending}
use Rattle.inventory.proofs.BoardLemmas.{board_swap}
use Rattle.inventory.proofs.BoardsLemmas.{board_cmp_eq, hits_ascend, places_ascend}
use Rattle.inventory.proofs.DifferencesLemmas.{left_more, left_one}

-- ---- the order of boards

board_trans : (first second third : Option Place) → option_cmp place_cmp first second ≡ Less → option_cmp place_cmp second third ≡ Less
    → option_cmp place_cmp first third ≡ Less
board_trans None None third before later = absurd (cc)
board_trans (Some first) None third before later = absurd (cc)
board_trans first (Some second) None before later = absurd (cc)
board_trans None (Some second) (Some third) before later = refl
board_trans (Some first) (Some second) (Some third) before later = place_total.trans first second third before later

-- of two boards that differ one comes before the other
board_behind : (board first : Option Place) → is_lt (option_cmp place_cmp first board) ≡ false → option_eq place_eq board first ≡ false
    → option_cmp place_cmp board first ≡ Less
board_behind None None late differ = absurd (cc)
board_behind None (Some first) late differ = refl
board_behind (Some board) None late differ = absurd (cc)
board_behind (Some board) (Some first) late differ =
    place_total.antisymm board first ∙ by (place_cmp first board) late (board_cmp_eq (Some first) (Some board) ∙ board_swap (Some first) (Some board) ∙ differ)
  where
    by : (order : Ordering) → is_lt order ≡ false → is_eq order ≡ false → ordering_reverse order ≡ Less
    by Less late differ = absurd (cc)
    by Equal late differ = absurd (cc)
    by Greater late differ = refl

less : (order : Ordering) → is_lt order ≡ true → order ≡ Less
less Less is = refl
less Equal is = absurd (cc)
less Greater is = absurd (cc)

differs : (board other : Option Place) → option_cmp place_cmp board other ≡ Less → option_eq place_eq board other ≡ false
differs board other before = sym (board_cmp_eq board other) ∙ ap is_eq before

-- ---- boards that are skipped

-- those that come before a board are not there behind it
skip_keeps : (board each : Option Place) (boards : List (Option Place))
    → ((first : Option Place) → option_cmp place_cmp first board ≡ Less → option_cmp place_cmp first each ≡ Less)
    → has_board boards each ≡ has_board (skip_before board boards) each
skip_keeps board each [] before = refl
skip_keeps board each (first ∷ boards) before = by (is_lt (option_cmp place_cmp first board)) refl (skip_keeps board each boards before)
  where
    by : (skips : Bool) → is_lt (option_cmp place_cmp first board) ≡ skips → has_board boards each ≡ has_board (skip_before board boards) each
        → has_board (first ∷ boards) each ≡ has_board (cond skips (skip_before board boards) (first ∷ boards)) each
    by true is rest =
        ap (λ (same : Bool). same || has_board boards each) (board_swap each first ∙ differs first each (before first (less _ is))) ∙ rest
    by false is rest = refl

none_has : (board : Option Place) (boards : List (Option Place)) → AllByRecursion (λ (each : Option Place). option_cmp place_cmp board each ≡ Less) boards
    → has_board boards board ≡ false
none_has board [] behind = refl
none_has board (first ∷ boards) behind = ap₂ (λ (one other : Bool). one || other) (differs board first behind.0) (none_has board boards behind.1)

all_behind : (board first : Option Place) (boards : List (Option Place)) → option_cmp place_cmp board first ≡ Less
    → AllByRecursion (λ (each : Option Place). option_cmp place_cmp first each ≡ Less) boards
    → AllByRecursion (λ (each : Option Place). option_cmp place_cmp board each ≡ Less) boards
all_behind board first [] before behind = tt
all_behind board first (each ∷ boards) before behind = (board_trans board first each before behind.0, all_behind board first boards before behind.1)

-- a board is there where it is the first of the rest
first_has : (board : Option Place) (boards : List (Option Place)) → AreAscending boards
    → has_board (skip_before board boards) board ≡ is_first board (skip_before board boards)
unfolding IsStrictlySortedBy
first_has board [] ascend = refl
first_has board (first ∷ boards) ascend = by (is_lt (option_cmp place_cmp first board)) refl (first_has board boards ascend.1)
  where
    here : (same : Bool) → option_eq place_eq board first ≡ same → is_lt (option_cmp place_cmp first board) ≡ false
        → (same || has_board boards board) ≡ same
    here true is late = refl
    here false is late = none_has board boards (all_behind board first boards (board_behind board first late is) ascend.0)

    by : (skips : Bool) → is_lt (option_cmp place_cmp first board) ≡ skips
        → has_board (skip_before board boards) board ≡ is_first board (skip_before board boards)
        → has_board (cond skips (skip_before board boards) (first ∷ boards)) board ≡ is_first board (cond skips (skip_before board boards) (first ∷ boards))
    by true is rest = rest
    by false is rest = here (option_eq place_eq board first) refl is

pub skip_ascends : (board : Option Place) (boards : List (Option Place)) → AreAscending boards → AreAscending (skip_before board boards)
unfolding IsStrictlySortedBy
skip_ascends board [] ascend = ascend
skip_ascends board (first ∷ boards) ascend = by (is_lt (option_cmp place_cmp first board)) (skip_ascends board boards ascend.1)
  where
    by : (skips : Bool) → AreAscending (skip_before board boards) → AreAscending (cond skips (skip_before board boards) (first ∷ boards))
    by true rest = rest
    by false rest = ascend

-- ---- the boards that are left

-- what is there is in the rest
abbrev pub AreIn : List (Option Place) → List (Option Place) → List (Option Place) → Type 0
AreIn there rest here = AllByRecursion (λ (each : Option Place). has_board there each ≡ has_board rest each) here

in_next : (board : Option Place) (there rest here : List (Option Place)) → AreIn there rest here
    → AllByRecursion (λ (each : Option Place). option_cmp place_cmp board each ≡ Less) here → AreIn there (skip_before board rest) here
in_next board there rest [] are behind = tt
in_next board there rest (each ∷ here) are behind =
    (are.0 ∙ skip_keeps board each rest (λ first before. board_trans first board each before behind.0), in_next board there rest here are.1 behind.1)

pub record IsMerged (here there rest : List (Option Place)) (i : ℕ) : Type 0 where
  pub ascend : AreAscending (drop i here)
  pub rest_ascend : AreAscending rest
  pub are_in : AreIn there rest (drop i here)

module _ (here there rest : List (Option Place)) (i : ℕ) (board : Option Place) (within : i < length here) (is : board ≡ get_or here i board)
    (merged : IsMerged here there rest i) where
  split : drop i here ≡ board ∷ drop (suc i) here
  split = drop-cons here i board within ∙ ap (λ (first : Option Place). first ∷ drop (suc i) here) (sym is)

  pub merged_next : IsMerged here there (skip_before board rest) (i + 1)
  unfolding IsStrictlySortedBy
  merged_next =
      let next : suc i ≡ i + 1 = omega arith in
      let ascend : AreAscending (board ∷ drop (suc i) here) = subst AreAscending split merged.ascend in
      let are_in : AreIn there rest (board ∷ drop (suc i) here) = subst (AreIn there rest) split merged.are_in in
      subst (IsMerged here there (skip_before board rest)) next (record {
        ascend = ascend.1;
        rest_ascend = skip_ascends board rest merged.rest_ascend;
        are_in = in_next board there rest (drop (suc i) here) are_in.1 ascend.0;
      })

  pub is_there : is_first board (skip_before board rest) ≡ has_board there board
  is_there =
      let are_in : AreIn there rest (board ∷ drop (suc i) here) = subst (AreIn there rest) split merged.are_in in
      sym (are_in.0 ∙ skip_keeps board board rest (λ first before. before) ∙ first_has board rest merged.rest_ascend)

  pub merge_more : (number : ℕ) (start so_far now : List BoardKey) → so_far ≡ start ++ left number (take i here) there
      → now ≡ so_far ++ cond (is_first board (skip_before board rest)) [] (key_of number board ∷ [])
      → now ≡ start ++ left number (take (i + 1) here) there
  merge_more number start so_far now before e =
      left_more number here there i board start so_far now within is before
      (e ∙ ap (λ (has : Bool). so_far ++ cond has [] (key_of number board ∷ [])) is_there
      ∙ ap (λ (keys : List BoardKey). so_far ++ keys) (sym (left_one number board there)))

-- ---- the boards of a moment

pub entries_ascend : (entries : List Entry) → are_by_place entries ≡ true
    → IsStrictlySortedBy place_cmp (map (λ (sight : Sight). sight.place) (map entry_sight entries))
unfolding IsStrictlySortedBy
entries_ascend [] order = tt
entries_ascend (entry ∷ entries) order = (behind entries (and_parts _ _ order).0, entries_ascend entries (and_parts _ _ order).1)
  where
    behind : (entries : List Entry) → list_all (λ (later : Entry). is_lt (place_cmp entry.place later.place)) entries ≡ true
        → AllByRecursion (λ (each : Place). place_cmp entry.place each ≡ Less) (map (λ (sight : Sight). sight.place) (map entry_sight entries))
    behind [] all = tt
    behind (later ∷ entries) all = (less _ (and_parts _ _ all).0, behind entries (and_parts _ _ all).1)

pub found_ascend : (match_one : Bool) (reach : ℕ → Bool) (moment : Moment) (number : ℕ) → are_by_place moment.entries ≡ true
    → AreAscending (found_boards match_one reach moment number)
found_ascend match_one reach moment number order =
    places_ascend match_one (hit_places reach (map entry_sight moment.entries) number)
    (hits_ascend reach (map entry_sight moment.entries) number (entries_ascend moment.entries order))

pub none_ascend : (boards : List (Option Place)) → boards ≡ [] → AreAscending boards
unfolding IsStrictlySortedBy
none_ascend boards none = subst AreAscending (sym none) tt
