-- The boards of one moment, each with its index.
use Rattle.std.proofs.Common.{◌≡◌, ◌∙◌, ℕ, zero, suc, ◌+◌, ◌<◌, Bool, true, false, not, cond, ◌||◌, List, [], ◌∷◌, ◌++◌, length, map, take, drop, get_or}
use Rattle.std.proofs.Common.{Option, Some, None, refl, sym, ap, ap₂, arith, append_assoc, length-append}
use Rattle.std.specs.Option.{option_eq, unwrap_or}
use Rattle.std.specs.List.{AllByRecursion, IsDistinct, position_or_len, flat_map, range_with_len}
use Rattle.std.proofs.Math.Bool.{or-false, or_assoc}
use Rattle.std.proofs.Math.Seq.{drop-cons}
use Rattle.std.proofs.lemmas.Bool.{or_parts}
use Rattle.std.proofs.lemmas.Grind.{flat_map-append}
use Rattle.std.proofs.lemmas.List.{map-append, append-nil, take_more, take-append-drop}
use Rattle.std.proofs.lemmas.List.Folds.{list_any-append}
use Rattle.bmc_base.specs.Places.{Place, place_eq}
use Rattle.inventory.specs.Boards.{has_board}
use Rattle.inventory.specs.Indexes.{with_board, with_boards, index_in, index_of}
use Rattle.inventory.specs.Differences.{key_of}
use Rattle.inventory.specs.Lists.{board_of, board_list, keys_of}
use Rattle.inventory.specs.declared.board.BoardKey.{BoardKey}
use Rattle.inventory.specs.declared.board.Board.{Board}
use Rattle.inventory.proofs.BoardLemmas.{board_itself, board_same, board_swap}
use Rattle.inventory.proofs.DifferencesLemmas.{range_push}
use Rattle.inventory.proofs.IndexesLemmas.{has_front, position_front}

-- ---- boards that are kept

with_both : (kept front back : List (Option Place)) → with_boards kept (front ++ back) ≡ with_boards (with_boards kept front) back
with_both kept [] back = refl
with_both kept (place ∷ front) back = with_both (with_board kept place) front back

-- whether a board is kept where one more is
has_with : (kept : List (Option Place)) (first place : Option Place)
    → has_board (with_board kept first) place ≡ (has_board kept place || option_eq place_eq place first)
has_with kept first place = by (has_board kept first) refl
  where
    there : has_board kept first ≡ true → (same : Bool) → option_eq place_eq place first ≡ same → has_board kept place ≡ (has_board kept place || same)
    there has true same =
        let here : has_board kept place ≡ true = ap (has_board kept) (board_same place first same) ∙ has in
        here ∙ sym (ap (λ (is : Bool). is || true) here)
    there has false same = sym (or-false (has_board kept place))

    by : (has : Bool) → has_board kept first ≡ has
        → has_board (cond has kept (kept ++ first ∷ [])) place ≡ (has_board kept place || option_eq place_eq place first)
    by true has = there has (option_eq place_eq place first) refl
    by false has =
        list_any-append (option_eq place_eq place) kept (first ∷ [])
        ∙ ap (λ (same : Bool). has_board kept place || same) (or-false (option_eq place_eq place first))

-- and where some more are
has_after : (kept places : List (Option Place)) (place : Option Place)
    → has_board (with_boards kept places) place ≡ (has_board kept place || has_board places place)
has_after kept [] place = sym (or-false (has_board kept place))
has_after kept (first ∷ places) place =
    has_after (with_board kept first) places place ∙ ap (λ (is : Bool). is || has_board places place) (has_with kept first place)
    ∙ or_assoc (has_board kept place) (option_eq place_eq place first) (has_board places place)

-- a board that is kept has its index for good
pub index_same : (kept places : List (Option Place)) (place : Option Place) → has_board kept place ≡ true
    → index_in (with_boards kept places) place ≡ index_in kept place
index_same kept [] place has = refl
index_same kept (first ∷ places) place has = by (has_board kept first) (λ more is. index_same more places place is)
  where
    by : (is_kept : Bool) → ((more : List (Option Place)) → has_board more place ≡ true → index_in (with_boards more places) place ≡ index_in more place)
        → index_in (with_boards (cond is_kept kept (kept ++ first ∷ [])) places) place ≡ index_in kept place
    by true rest = rest kept has
    by false rest =
        rest (kept ++ first ∷ []) (has_front kept (first ∷ []) place has) ∙ ap (λ (n : ℕ). n + 1) (position_front kept (first ∷ []) place has)

-- a board that is new goes behind the others
position_new : (kept : List (Option Place)) (place : Option Place) → has_board kept place ≡ false
    → position_or_len (option_eq place_eq place) (kept ++ place ∷ []) ≡ length kept
position_new [] place new = ap (λ (same : Bool). cond (not same) (1 + 0) 0) (board_itself place)
position_new (board ∷ kept) place new =
    let parts : (option_eq place_eq place board ≡ false) × (has_board kept place ≡ false) = or_parts _ _ new in
    let next : 1 + length kept ≡ length (board ∷ kept) = omega arith in
    ap₂ (λ (same : Bool) (n : ℕ). cond (not same) (1 + n) 0) parts.0 (position_new kept place parts.1) ∙ next

has_new : (kept : List (Option Place)) (place : Option Place) → has_board (kept ++ place ∷ []) place ≡ true
has_new [] place = ap (λ (same : Bool). same || false) (board_itself place)
has_new (board ∷ kept) place = by (option_eq place_eq place board) (has_new kept place)
  where
    by : (same : Bool) → has_board (kept ++ place ∷ []) place ≡ true → (same || has_board (kept ++ place ∷ []) place) ≡ true
    by true has = refl
    by false has = has

-- ---- boards that differ

all_at : {X : Type 0} (Fact : X → Type 0) (xs : List X) (i : ℕ) (default : X) → AllByRecursion Fact xs → i < length xs → Fact (get_or xs i default)
all_at Fact [] i default facts within = absurd (omega (arith, within))
all_at Fact (first ∷ xs) zero default facts within = facts.0
all_at Fact (first ∷ xs) (suc i) default facts within = all_at Fact xs i default facts.1 (omega (arith, within))

-- a board is not among those before it
absent_before : (places : List (Option Place)) (i : ℕ) (place : Option Place) → IsDistinct (option_eq place_eq) places → i < length places
    → place ≡ get_or places i place → has_board (take i places) place ≡ false
unfolding IsDistinct
absent_before [] i place differ within is = absurd (omega (arith, within))
absent_before (first ∷ places) zero place differ within is = refl
absent_before (first ∷ places) (suc i) place differ within is =
    let below : i < length places = omega (arith, within) in
    let apart : option_eq place_eq first (get_or places i place) ≡ false =
    all_at (λ other. option_eq place_eq first other ≡ false) places i place differ.0 below in
    ap₂ (λ (same later : Bool). same || later) (board_swap place first ∙ ap (option_eq place_eq first) is ∙ apart)
    (absent_before places i place differ.1 below is)

-- ---- one board more

module _ (kept places : List (Option Place)) (i : ℕ) (place : Option Place) (differ : IsDistinct (option_eq place_eq) places) (within : i < length places)
    (is : place ≡ get_or places i place) where
  abbrev before : List (Option Place)
  before = with_boards kept (take i places)

  next : with_boards kept (take (i + 1) places) ≡ with_board before place
  next =
      ap (with_boards kept) (take_more places i place within ∙ ap (λ (last : Option Place). take i places ++ last ∷ []) (sym is))
      ∙ with_both kept (take i places) (place ∷ [])

  all : with_boards kept places ≡ with_boards (with_board before place) (drop (suc i) places)
  all =
      ap (with_boards kept)
      (sym (take-append-drop i places)
      ∙ ap (λ (rest : List (Option Place)). take i places ++ rest) (drop-cons places i place within
      ∙ ap (λ (first : Option Place). first ∷ drop (suc i) places) (sym is)))
      ∙ with_both kept (take i places) (place ∷ drop (suc i) places)

  has_as : has_board before place ≡ has_board kept place
  has_as =
      has_after kept (take i places) place ∙ ap (λ (has : Bool). has_board kept place || has) (absent_before places i place differ within is)
      ∙ or-false (has_board kept place)

  -- so many are kept after it
  pub count_more : (last new_last : ℕ) → last ≡ length before → new_last ≡ cond (has_board kept place) last (last + 1)
      → new_last ≡ length (with_boards kept (take (i + 1) places))
  count_more last new_last count given =
      given ∙ ap (λ (has : Bool). cond has last (last + 1)) (sym has_as) ∙ by (has_board before place) ∙ ap length (sym next)
    where
      by : (has : Bool) → cond has last (last + 1) ≡ length (cond has before (before ++ place ∷ []))
      by true = count
      by false = omega (arith, count, length-append before (place ∷ []))

  -- and it has its index among all of them
  pub index_given : (last : ℕ) → last ≡ length before → unwrap_or (index_of kept place) (last + 1) ≡ index_in (with_boards kept places) place
  index_given last count = by (has_board kept place) refl ∙ ap (λ (more : List (Option Place)). index_in more place) (sym all)
    where
      by : (has : Bool) → has_board kept place ≡ has
          → unwrap_or (cond has (Some (index_in kept place)) None) (last + 1)
          ≡ index_in (with_boards (with_board before place) (drop (suc i) places)) place
      by true has =
          let same : with_board before place ≡ before = ap (λ (is : Bool). cond is before (before ++ place ∷ [])) (has_as ∙ has) in
          sym (index_same before (drop (suc i) places) place (has_as ∙ has) ∙ index_same kept (take i places) place has)
          ∙ ap (λ (more : List (Option Place)). index_in (with_boards more (drop (suc i) places)) place) (sym same)
      by false new =
          let more : with_board before place ≡ before ++ place ∷ [] = ap (λ (is : Bool). cond is before (before ++ place ∷ [])) (has_as ∙ new) in
          ap (λ (n : ℕ). n + 1) (count ∙ sym (position_new before place (has_as ∙ new)))
          ∙ sym (index_same (before ++ place ∷ []) (drop (suc i) places) place (has_new before place))
          ∙ ap (λ (more : List (Option Place)). index_in (with_boards more (drop (suc i) places)) place) (sym more)

  -- one more is listed
  pub listed_more : (number index last : ℕ) (start so_far now : List Board)
      → so_far ≡ start ++ map (board_of (λ _. with_boards kept places)) (map (key_of number) (take i places)) → last ≡ length before
      → index ≡ unwrap_or (index_of kept place) (last + 1) → now ≡ so_far ++ (record { key = key_of number place; index = index }) ∷ []
      → now ≡ start ++ map (board_of (λ _. with_boards kept places)) (map (key_of number) (take (i + 1) places))
  listed_more number index last start so_far now earlier count given e =
      let board_at : BoardKey → Board = board_of (λ _. with_boards kept places) in
      e
      ∙ ap₂ (λ (boards : List Board) (n : ℕ). boards ++ (record { key = key_of number place; index = n }) ∷ []) earlier
      (given ∙ index_given last count)
      ∙ append_assoc start (map board_at (map (key_of number) (take i places))) (board_at (key_of number place) ∷ [])
      ∙ ap (λ (boards : List Board). start ++ boards)
      (sym (map-append board_at (map (key_of number) (take i places)) (key_of number place ∷ []))
      ∙ ap (map board_at) (sym (map-append (key_of number) (take i places) (place ∷ []))
      ∙ ap (λ (last : Option Place). map (key_of number) (take i places ++ last ∷ [])) is ∙ ap (map (key_of number)) (sym (take_more places i place within))))

-- ---- one configuration more

boards_alike : (kept : ℕ → List (Option Place)) (number : ℕ) (places : List (Option Place))
    → map (board_of (λ _. kept number)) (map (key_of number) places) ≡ map (board_of kept) (map (key_of number) places)
boards_alike kept number [] = refl
boards_alike kept number (place ∷ places) =
    ap (λ (boards : List Board). board_of kept (key_of number place) ∷ boards) (boards_alike kept number places)

keys_more : (number : ℕ) (boards : ℕ → List (Option Place)) → keys_of (number + 1) boards ≡ keys_of number boards ++ map (key_of number) (boards number)
keys_more number boards =
    let keys_at : ℕ → List BoardKey = λ n. map (key_of n) (boards n) in
    let from : 0 + number ≡ number = omega arith in
    ap (flat_map keys_at) (range_push 0 number ∙ ap (λ n. range_with_len 0 number ++ n ∷ []) from)
    ∙ flat_map-append keys_at (range_with_len 0 number) (number ∷ [])
    ∙ ap (λ (keys : List BoardKey). keys_of number boards ++ keys) (append-nil (keys_at number))

pub config_listed : (kept boards : ℕ → List (Option Place)) (number : ℕ) (places : List (Option Place)) (so_far now : List Board)
    → so_far ≡ board_list (λ n. with_boards (kept n) (boards n)) (keys_of number boards)
    → now ≡ so_far ++ map (board_of (λ _. with_boards (kept number) places)) (map (key_of number) places) → places ≡ boards number
    → now ≡ board_list (λ n. with_boards (kept n) (boards n)) (keys_of (number + 1) boards)
config_listed kept boards number places so_far now earlier e is =
    let all : ℕ → List (Option Place) = λ n. with_boards (kept n) (boards n) in
    e
    ∙ ap₂ (λ (front : List Board) (places : List (Option Place)). front ++ map (board_of (λ _. with_boards (kept number) places)) (map (key_of number) places))
    earlier is
    ∙ ap (λ (back : List Board). board_list all (keys_of number boards) ++ back) (boards_alike all number (boards number))
    ∙ sym (map-append (board_of all) (keys_of number boards) (map (key_of number) (boards number)))
    ∙ ap (board_list all) (sym (keys_more number boards))
