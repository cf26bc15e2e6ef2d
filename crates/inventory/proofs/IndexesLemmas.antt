-- Boards that are kept, and their indexes.
use Rattle.std.proofs.Common.{◌≡◌, ℕ, ◌+◌, List, [], ◌∷◌, ◌++◌, Bool, true, false, not, cond, ◌||◌, Option, Some, None, refl, sym, ap, ap₂, ◌∙◌, append_assoc}
use Rattle.std.specs.Option.{option_eq}
use Rattle.std.specs.List.{IsDistinct, position_or_len}
use Rattle.std.proofs.lemmas.Bool.{or_left}
use Rattle.std.proofs.lemmas.List.{append-nil}
use Rattle.std.proofs.lemmas.List.Folds.{list_any-append}
use Rattle.bmc_base.specs.Places.{Place, place_eq}
use Rattle.inventory.specs.Boards.{has_board}
use Rattle.inventory.specs.Indexes.{except, with_boards, index_of}
use Rattle.inventory.specs.Laws.{KeepsNew, IndexStays}
use Rattle.inventory.proofs.BoardLemmas.{board_swap}
use Rattle.inventory.proofs.ListLemmas.{all_weaker, filter_alike}

-- ---- boards that are kept

or_none : (has : Bool) → (has || (false || false)) ≡ has
or_none true = refl
or_none false = refl

-- a board more is kept, which tells nothing of one that it is not
has_as_before : (kept : List (Option Place)) (place other : Option Place) → option_eq place_eq place other ≡ false
    → has_board (kept ++ place ∷ []) other ≡ has_board kept other
has_as_before kept place other apart =
    list_any-append (option_eq place_eq other) kept (place ∷ []) ∙ ap (λ (same : Bool). has_board kept other || (same || false)) (board_swap other place
    ∙ apart)
    ∙ or_none (has_board kept other)

-- the boards that are kept, and behind them those that are new
pub with_boards_distinct : (kept places : List (Option Place)) → IsDistinct (option_eq place_eq) places
    → with_boards kept places ≡ kept ++ except (has_board kept) places
unfolding IsDistinct
with_boards_distinct kept [] differ = sym (append-nil kept)
with_boards_distinct kept (place ∷ places) differ = by (has_board kept place) (λ more. with_boards_distinct more places differ.1)
  where
    new : List (Option Place)
    new = except (has_board kept) places

    alike : except (has_board (kept ++ place ∷ [])) places ≡ except (has_board kept) places
    alike =
        filter_alike (λ (other : Option Place). not (has_board (kept ++ place ∷ []) other)) (λ (other : Option Place). not (has_board kept other)) places
        (all_weaker _ _ (λ (other : Option Place) apart. ap not (has_as_before kept place other apart)) places differ.0)

    by : (has : Bool) → ((more : List (Option Place)) → with_boards more places ≡ more ++ except (has_board more) places)
        → with_boards (cond has kept (kept ++ place ∷ [])) places ≡
        kept ++ cond (not has) (place ∷ except (has_board kept) places) (except (has_board kept) places)
    by true rest = rest kept
    by false rest =
        rest (kept ++ place ∷ []) ∙ ap (λ (later : List (Option Place)). (kept ++ place ∷ []) ++ later) alike
        ∙ append_assoc kept (place ∷ []) (except (has_board kept) places)

-- ---- indexes

pub has_front : (front back : List (Option Place)) (place : Option Place) → has_board front place ≡ true → has_board (front ++ back) place ≡ true
has_front front back place has = list_any-append (option_eq place_eq place) front back ∙ or_left _ _ has

pub position_front : (front back : List (Option Place)) (place : Option Place) → has_board front place ≡ true
    → position_or_len (option_eq place_eq place) (front ++ back) ≡ position_or_len (option_eq place_eq place) front
position_front [] back place has = absurd (cc)
position_front (board ∷ front) back place has = by (option_eq place_eq place board) has (position_front front back place)
  where
    by : (same : Bool) → (same || has_board front place) ≡ true
        → (has_board front place ≡ true → position_or_len (option_eq place_eq place) (front ++ back) ≡ position_or_len (option_eq place_eq place) front)
        → cond (not same) (1 + position_or_len (option_eq place_eq place) (front ++ back)) 0 ≡
        cond (not same) (1 + position_or_len (option_eq place_eq place) front) 0
    by true has rest = refl
    by false has rest = ap (λ n. 1 + n) (rest has)

index_front : (front back : List (Option Place)) (place : Option Place) → has_board front place ≡ true → index_of (front ++ back) place ≡ index_of front place
index_front front back place has =
    ap₂ (λ (is : Bool) (n : ℕ). cond is (Some (n + 1)) None) (has_front front back place has ∙ sym has) (position_front front back place has)

-- a board that is kept has its index for good
pub index_stays : (kept places : List (Option Place)) (place : Option Place) → has_board kept place ≡ true
    → index_of (with_boards kept places) place ≡ index_of kept place
index_stays kept [] place has = refl
index_stays kept (board ∷ places) place has = by (has_board kept board) (λ more is. index_stays more places place is)
  where
    by : (is_kept : Bool) → ((more : List (Option Place)) → has_board more place ≡ true → index_of (with_boards more places) place ≡ index_of more place)
        → index_of (with_boards (cond is_kept kept (kept ++ board ∷ [])) places) place ≡ index_of kept place
    by true rest = rest kept has
    by false rest = rest (kept ++ board ∷ []) (has_front kept (board ∷ []) place has) ∙ index_front kept (board ∷ []) place has

-- ---- laws

pub keeps_new : KeepsNew
keeps_new kept places differ = with_boards_distinct kept places differ

pub each_index_stays : IndexStays
each_index_stays kept places place has = index_stays kept places place has
