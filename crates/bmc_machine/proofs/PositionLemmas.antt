-- Positions in a list of boards: how many boards stand before one of them.
use Rattle.std.proofs.Common.{◌≡◌, ℕ, ◌+◌, List, [], ◌∷◌, ◌++◌, Bool, true, false, not, cond, ◌||◌, nat_lt, Option, filter, refl, sym, ap, ap₂, ◌∙◌, arith}
use Rattle.std.specs.Prelude.{length}
use Rattle.std.specs.Option.{option_eq}
use Rattle.std.specs.List.{AllByRecursion, IsDistinct}
use Rattle.std.proofs.lemmas.Bool.{false_from_ne_true, both_ways, or_parts}
use Rattle.std.proofs.lemmas.Bool.Decides.{nat_tests}
use Rattle.bmc_base.specs.Places.{Place, place_eq}
use Rattle.inventory.specs.Boards.{has_board}
use Rattle.inventory.specs.Indexes.{except}
use Rattle.bmc_machine.specs.Meetings.{position_of}
use Rattle.inventory.proofs.BoardLemmas.{board_itself, board_same}
use Rattle.inventory.proofs.ListLemmas.{all_any, all_filter, all_weaker, filter_alike, filter_none}

-- a board that is not among the first stands behind all of them
pub position_behind : (place : Option Place) (front back : List (Option Place)) → has_board front place ≡ false
    → position_of place (front ++ back) ≡ length front + position_of place back
position_behind place [] back absent = omega arith
position_behind place (board ∷ front) back absent =
    let apart : (option_eq place_eq place board ≡ false) × (has_board front place ≡ false) =
    or_parts (option_eq place_eq place board) (has_board front place) absent in
    let rest : position_of place (front ++ back) ≡ length front + position_of place back = position_behind place front back apart.1 in
    let one_more : 1 + position_of place (front ++ back) ≡ length (board ∷ front) + position_of place back = omega (arith, rest) in
    ap (λ (same : Bool). cond (not same) (1 + position_of place (front ++ back)) 0) apart.0 ∙ one_more

-- whether another board stands before this one
abbrev pub is_before : List (Option Place) → Option Place → Option Place → Bool
is_before boards place other = nat_lt (position_of other boards) (position_of place boards)

shift : (m n : ℕ) → nat_lt (1 + m) (1 + n) ≡ nat_lt m n
shift m n = grind (arith, nat_tests)

some_before : (n : ℕ) → nat_lt 0 (1 + n) ≡ true
some_before n = grind (arith, nat_tests)

none_before : (n : ℕ) → nat_lt n 0 ≡ false
none_before n = grind (arith, nat_tests)

differs : (place other : Option Place) → option_eq place_eq place other ≡ false → option_eq place_eq other place ≡ false
differs place other apart =
    false_from_ne_true _ (λ same. both_ways _ apart (turned (board_same other place same)))
  where
    turned : other ≡ place → option_eq place_eq place other ≡ true
    turned one = ap (λ (it : Option Place). option_eq place_eq it other) (sym one) ∙ board_itself other

module _ (test : Option Place → Bool) (place board : Option Place) (boards : List (Option Place)) where
  abbrev left : List (Option Place)
  left = except test boards

  -- the position of a board in the longer list, by whether it is the first there
  abbrev position : Bool → Option Place → ℕ
  position is_first other = cond (not is_first) (1 + position_of other boards) 0

  -- how many are before the place, of those that are left and then of the first with them
  abbrev count : List (Option Place) → ℕ
  count others = length (filter (is_before (board ∷ boards) place) others)

  abbrev with_first : Bool → List (Option Place)
  with_first passes = cond (not passes) (board ∷ left) left

  count_left : AllByRecursion (λ other. option_eq place_eq board other ≡ false) boards → option_eq place_eq place board ≡ false
      → count left ≡ length (filter (is_before boards place) left)
  count_left differ apart = ap length (filter_alike _ _ left (all_weaker _ _ each left (all_filter _ _ boards differ)))
    where
      each : (other : Option Place) → option_eq place_eq board other ≡ false → is_before (board ∷ boards) place other ≡ is_before boards place other
      each other away =
          ap₂ (λ (one two : Bool). nat_lt (position one other) (position two place)) (differs board other away) apart
          ∙ shift (position_of other boards) (position_of place boards)

  -- where the place is not that of the first
  count_other : (passes : Bool) → option_eq place_eq place board ≡ false → count left ≡ position_of place left
      → count (with_first passes) ≡ position_of place (with_first passes)
  count_other true apart rest = rest
  count_other false apart rest =
      let first : is_before (board ∷ boards) place board ≡ true =
      ap₂ (λ (one two : Bool). nat_lt (position one board) (position two place)) (board_itself board) apart ∙ some_before (position_of place boards) in
      let one_more : length (board ∷ before) ≡ 1 + position_of place left = omega (arith, rest) in
      ap (λ (is_first : Bool). length (cond is_first (board ∷ before) before)) first
      ∙ one_more
      ∙ sym (ap (λ (same : Bool). cond (not same) (1 + position_of place left) 0) apart)
    where
      before : List (Option Place)
      before = filter (is_before (board ∷ boards) place) left

  -- where it is
  count_same : (passes : Bool) → passes ≡ false → option_eq place_eq place board ≡ true → count (with_first passes) ≡ position_of place (with_first passes)
  count_same true is same = absurd (cc)
  count_same false is same =
      ap length (filter_none (is_before (board ∷ boards) place) (board ∷ left) (all_any _ none (board ∷ left)))
      ∙ sym (ap (λ (here : Bool). cond (not here) (1 + position_of place left) 0) same)
    where
      none : (other : Option Place) → is_before (board ∷ boards) place other ≡ false
      none other = ap (λ (here : Bool). nat_lt (position_of other (board ∷ boards)) (position here place)) same ∙ none_before _

-- Of boards that differ, those that are left and stand before one of them are as many as its position among those left.
pub count_before : (test : Option Place → Bool) (place : Option Place) (boards : List (Option Place)) → IsDistinct (option_eq place_eq) boards
    → test place ≡ false → has_board boards place ≡ true
    → length (filter (is_before boards place) (except test boards)) ≡ position_of place (except test boards)
unfolding IsDistinct
count_before test place [] differ stays has = refl
count_before test place (board ∷ boards) differ stays has = by (option_eq place_eq place board) refl has (count_before test place boards differ.1 stays)
  where
    by : (same : Bool) → option_eq place_eq place board ≡ same → (same || has_board boards place) ≡ true
        → (has_board boards place ≡ true → length (filter (is_before boards place) (except test boards)) ≡ position_of place (except test boards))
        → length (filter (is_before (board ∷ boards) place) (except test (board ∷ boards))) ≡ position_of place (except test (board ∷ boards))
    by true is has rest = count_same test place board boards (test board) (ap test (sym (board_same place board is)) ∙ stays) is
    by false is has rest = count_other test place board boards (test board) is (count_left test place board boards differ.0 is ∙ rest has)
