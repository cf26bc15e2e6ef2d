-- Lists of boards that grow.
use Rattle.std.proofs.Common.{◌≡◌, ◌≢◌, ℕ, ◌+◌, ◌<◌, ◌≤◌, List, [], ◌∷◌, ◌++◌, Bool, true, false, not, cond}
use Rattle.std.proofs.Common.{length, take, drop, map, filter, get_or, refl, sym, ap, subst, ◌∙◌}
use Rattle.std.proofs.Common.{arith, length-append, Option, Some, None, Result, Ok, Err, IfOk, IsOk, eq-eqb}
use Rattle.std.specs.Prelude.{nat_eq, nat_lt, slice_set, slice_index_or, ◌==◌, if◌then◌else◌}
use Rattle.std.specs.Option.{option_eq}
use Rattle.std.specs.Ordering.{ord_max, nat_cmp}
use Rattle.std.specs.List.{position_or_len, AllByRecursion}
use Rattle.inventory.proofs.ListLemmas.{all_append, all_weaker}
use Rattle.std.proofs.lemmas.Bool.{eqb-true, or_parts}
use Rattle.std.proofs.lemmas.Bool.Decides.{nat_tests}
use Rattle.std.proofs.lemmas.List.{length-map, map-set, map-append, get_or-set_same, get_or-set_other, get_or_past, take-append-drop, take_more, get_or-map}
use Rattle.std.proofs.lemmas.List.Elements.{All-more, filter-append}
use Rattle.std.proofs.Math.Seq.{take-append_seam}
use Rattle.indexmap.specs.IndexSet.{IndexSet, spare}
use Rattle.bmc_base.specs.Places.{Place, place_eq}
use Rattle.inventory.specs.declared.board.BoardKey.{BoardKey}
use Rattle.inventory.specs.Boards.{has_board}
use Rattle.inventory.specs.Indexes.{kept_of, with_board, with_boards, index_of, index_in}
use Rattle.inventory.specs.Differences.{places_of}
use Rattle.inventory.specs.Keeping.{AreListed, IsGreatest, IsReady, keys_of, room_of, most_boards}

-- ---- keys of one configuration

pub count_places : (number : ℕ) (keys : List BoardKey) → length (places_of number keys) ≡ length (filter (λ (key : BoardKey). nat_eq key.config number) keys)
count_places number keys = length-map (filter (λ (key : BoardKey). nat_eq key.config number) keys) (λ (key : BoardKey). key.place)

places_append : (number : ℕ) (front back : List BoardKey) → places_of number (front ++ back) ≡ places_of number front ++ places_of number back
places_append number front back =
    ap (map (λ (key : BoardKey). key.place)) (filter-append (λ (key : BoardKey). nat_eq key.config number) front back)
    ∙ map-append (λ (key : BoardKey). key.place) (filter (λ (key : BoardKey). nat_eq key.config number) front) (filter (λ
    (key : BoardKey). nat_eq key.config number) back)

places_one : (number : ℕ) (key : BoardKey) → places_of number (key ∷ []) ≡ cond (nat_eq key.config number) (key.place ∷ []) []
places_one number key = by (nat_eq key.config number)
  where
    by : (b : Bool) → map (λ (each : BoardKey). each.place) (cond b (key ∷ []) []) ≡ cond b (key.place ∷ []) []
    by true = refl
    by false = refl

pub places_more : (number : ℕ) (keys : List BoardKey) (i : ℕ) (key : BoardKey) → i < length keys → key ≡ get_or keys i key
    → places_of number (take (i + 1) keys) ≡ places_of number (take i keys) ++ cond (nat_eq key.config number) (key.place ∷ []) []
places_more number keys i key within is =
    ap (places_of number) (take_more keys i key within ∙ ap (λ (last : BoardKey). take i keys ++ last ∷ []) (sym is))
    ∙ places_append number (take i keys) (key ∷ [])
    ∙ ap (λ (l : List (Option Place)). places_of number (take i keys) ++ l) (places_one number key)

-- how many are of a configuration with a key more
pub count_plus : (number : ℕ) (keys : List BoardKey) (key : BoardKey)
    → length (places_of number (keys ++ key ∷ [])) ≡ length (places_of number keys) + cond (nat_eq key.config number) 1 0
count_plus number keys key =
    ap length (places_append number keys (key ∷ [])) ∙ length-append (places_of number keys) (places_of number (key ∷ []))
    ∙ ap (λ (n : ℕ). length (places_of number keys) + n) (ap length (places_one number key) ∙ by (nat_eq key.config number))
  where
    by : (b : Bool) → length (cond b (key.place ∷ []) []) ≡ cond b 1 0
    by true = refl
    by false = refl

-- none is of a configuration that all are below
pub count_none : (number end : ℕ) (keys : List BoardKey) → AllByRecursion (λ (key : BoardKey). key.config < end) keys → end ≤ number
    → length (places_of number keys) ≡ 0
count_none number end [] below past = refl
count_none number end (key ∷ keys) below past = by (nat_eq key.config number) refl (count_none number end keys below.1 past)
  where
    by : (b : Bool) → nat_eq key.config number ≡ b → length (places_of number keys) ≡ 0
        → length (map (λ (each : BoardKey). each.place) (cond b (key ∷ filter (λ (each : BoardKey). nat_eq each.config number) keys)
        (filter (λ (each : BoardKey). nat_eq each.config number) keys))) ≡ 0
    by true same rest = absurd (omega (arith, eqb-true key.config number same, below.0, past))
    by false apart rest = rest

-- the greatest configuration stays, or it is that of a key more
pub greatest_same : (keys : List BoardKey) (key : BoardKey) (end count config : ℕ) → IsGreatest keys end count → key.config ≡ config → config + 1 < end
    → IsGreatest (keys ++ key ∷ []) end count
greatest_same keys key end count config greatest is less = record {
  below = all_append (λ (each : BoardKey). each.config < end) keys (key ∷ []) greatest.below (omega (arith, is, less), tt);
  last = λ number ends.
      let apart : nat_eq key.config number ≡ false = grind (arith, nat_tests, is, less, ends) in
      greatest.last number ends ∙ sym (count_plus number keys key ∙ ap (λ (b : Bool). length (places_of number keys) + cond b 1 0) apart ∙ omega arith);
}

pub greatest_next : (keys : List BoardKey) (key : BoardKey) (end count config old next : ℕ) → IsGreatest keys end old → key.config ≡ config
    → count ≡ length (places_of config keys) → next ≡ config + 1 → end ≤ next
    → IsGreatest (keys ++ key ∷ []) next (count + 1)
greatest_next keys key end count config old next greatest is counted ends most = record {
  below = all_append (λ (each : BoardKey). each.config < next) keys (key ∷ [])
      (all_weaker (λ (each : BoardKey). each.config < end) (λ (each : BoardKey). each.config < next) (λ each less. omega (arith, less, most)) keys
      greatest.below)
      (omega (arith, is, ends), tt);
  last = λ number last.
      let here : number ≡ config = omega (arith, last, ends) in
      let same : nat_eq key.config number ≡ true = eq-eqb key.config number (is ∙ sym here) in
      sym (count_plus number keys key ∙ ap (λ (b : Bool). length (places_of number keys) + cond b 1 0) same
      ∙ ap (λ (n : ℕ). n + 1) (ap (λ (n : ℕ). length (places_of n keys)) here ∙ sym counted));
}

-- the first keys have at most as many places as all
places_most : (number i : ℕ) (keys : List BoardKey) → length (places_of number (take i keys)) ≤ length (places_of number keys)
places_most number i keys =
    let all : places_of number keys ≡ places_of number (take i keys) ++ places_of number (drop i keys) = ap (places_of number) (sym
    (take-append-drop i keys)) ∙ places_append number (take i keys) (drop i keys) in
    omega (arith, ap length all, length-append (places_of number (take i keys)) (places_of number (drop i keys)))

pub max_first : (a b m : ℕ) → m ≡ ord_max nat_cmp a b → a ≤ m
max_first a b m is = grind (arith, is)

pub max_second : (a b m : ℕ) → m ≡ ord_max nat_cmp a b → b ≤ m
max_second a b m is = grind (arith, is)

-- a key more has a list
pub listed_more : (keys : List BoardKey) (i count new : ℕ) (key : BoardKey) → i < length keys → AreListed (take i keys) count → count ≤ new
    → key ≡ get_or keys i key
    → key.config < new → AreListed (take (i + 1) keys) new
listed_more keys i count new key within so_far more is now =
    All-more (λ (each : BoardKey). each.config < new) keys i key within (λ k d h. let was : (get_or
    (take i keys) k d).config < count = so_far k d h in omega arith)
    (let config : key.config ≡ (get_or keys i key).config = ap (λ (each : BoardKey). each.config) is in omega arith)

-- ---- lists that grow

pub with_boards_append : (kept front back : List (Option Place)) → with_boards kept (front ++ back) ≡ with_boards (with_boards kept front) back
with_boards_append kept [] back = refl
with_boards_append kept (place ∷ front) back = with_boards_append (with_board kept place) front back

with_board_most : (kept : List (Option Place)) (place : Option Place) → length (with_board kept place) ≤ length kept + 1
with_board_most kept place = by (has_board kept place)
  where
    by : (b : Bool) → length (cond b kept (kept ++ place ∷ [])) ≤ length kept + 1
    by true = omega arith
    by false = omega (arith, length-append kept (place ∷ []))

with_boards_most : (kept places : List (Option Place)) → length (with_boards kept places) ≤ length kept + length places
with_boards_most kept [] = omega arith
with_boards_most kept (place ∷ places) = omega (arith, with_board_most kept place, with_boards_most (with_board kept place) places)

-- ---- a list of lists, where one of them is another

module _ {X Y : Type 0} (view : X → Y) (none : Y) (lists : List X) (number : ℕ) (new : X) where
  pub seen_same : number < length lists → slice_index_or (map view (slice_set lists number new)) number none ≡ view new
  seen_same within =
      let listed : number < length (map view lists) = omega (arith, length-map lists view) in
      ap (λ (ys : List Y). slice_index_or ys number none) (map-set view lists number new) ∙ get_or-set_same (map view lists) number (view new) none listed

  pub seen_other : (each : ℕ) → each ≢ number → slice_index_or (map view (slice_set lists number new)) each none ≡ slice_index_or (map view lists) each none
  seen_other each other =
      ap (λ (ys : List Y). slice_index_or ys each none) (map-set view lists number new) ∙ get_or-set_other (map view lists) number each (view new) none other

  -- the same is seen where the new one looks as the old one did
  pub seen_alike : (old : X) → number < length lists → view new ≡ view (get_or lists number old) → (each : ℕ)
      → slice_index_or (map view (slice_set lists number new)) each none ≡ slice_index_or (map view lists) each none
  seen_alike old within alike each = by (nat_eq each number) refl
    where
      by : (b : Bool) → nat_eq each number ≡ b → slice_index_or (map view (slice_set lists number new)) each none ≡ slice_index_or (map view lists) each none
      by true same =
          let here : each ≡ number = eqb-true each number same in
          ap (λ n. slice_index_or (map view (slice_set lists number new)) n none) here ∙ seen_same within ∙ alike
          ∙ sym (get_or-map view lists number old none within) ∙ ap (λ n. slice_index_or (map view lists) n none) (sym here)
      by false apart = seen_other each (λ here. absurd (grind (arith, nat_tests, here, apart)))

-- ---- room for the boards of keys

module _ {S : Type 0} (lists : List (IndexSet (Option Place) S)) (number : ℕ) (old new : IndexSet (Option Place) S)
    (within : number < length lists) where
  -- room was made in a list for one key more
  pub ready_next : (front now : List BoardKey) (count : ℕ) → count ≡ length (places_of number front)
      → ((each : ℕ) → length (places_of each now) ≡ length (places_of each front) + cond (nat_eq number each) 1 0)
      → count < spare new → length new.keys + count < most_boards → (each : ℕ) → IsReady front lists each
      → IsReady now (slice_set lists number new) each
  ready_next front now count is more room few each before = by (nat_eq number each) refl (more each)
    where
      by : (b : Bool) → nat_eq number each ≡ b → length (places_of each now) ≡ length (places_of each front) + cond b 1 0
          → IsReady now (slice_set lists number new) each
      by true same one_more =
          let long : length (places_of number now) ≡ count + 1 =
          subst (λ (n : ℕ). length (places_of n now) ≡ length (places_of n front) + 1) (sym (eqb-true number each same)) one_more
          ∙ ap (λ (n : ℕ). n + 1) (sym is) in
          subst (IsReady now (slice_set lists number new)) (eqb-true number each same) (record {
            room = omega (arith, long, room, seen_same spare 0 lists number new within);
            few = omega (arith, long, few, ap length (seen_same (λ (list : IndexSet (Option Place) S). list.keys) [] lists number new within));
          })
      by false apart one_more =
          let other : each ≢ number = λ here. absurd (grind (arith, nat_tests, here, apart)) in
          record {
            room = omega (arith, one_more, before.room, seen_other spare 0 lists number new each other);
            few = omega (
              arith,
              one_more,
              before.few,
              ap length
                  (seen_other (λ (list : IndexSet (Option Place) S). list.keys) [] lists number new each other),
            );
          }

  pub room_is : room_of lists number ≡ spare (get_or lists number old)
  room_is = get_or-map spare lists number old 0 within

  -- a board is kept in a list
  pub kept_set : (place : Option Place) → new.keys ≡ with_board ((get_or lists number old).keys) place
      → keys_of (slice_set lists number new) ≡ slice_set (keys_of lists) number (with_board (kept_of (keys_of lists) number) place)
  kept_set place now =
      map-set (λ (list : IndexSet (Option Place) S). list.keys) lists number new
      ∙ ap (slice_set (keys_of lists) number) (now ∙ ap (λ (kept : List (Option Place)). with_board kept place)
      (sym (get_or-map (λ (list : IndexSet (Option Place) S). list.keys) lists number old [] within)))

  -- and takes at most one board's room
  pub room_set : spare (get_or lists number old) ≤ spare new + 1 → (each : ℕ)
      → room_of lists each ≤ room_of (slice_set lists number new) each + (if each == number then 1 else 0)
  room_set one each = by (each == number) refl
    where
      by : (b : Bool) → (each == number) ≡ b → room_of lists each ≤ room_of (slice_set lists number new) each + cond b 1 0
      by true same =
          subst (λ n. room_of lists n ≤ room_of (slice_set lists number new) n + 1) (sym (eqb-true each number same))
          (omega (arith, one, room_is, seen_same spare 0 lists number new within))
      by false apart =
          let other : each ≢ number = λ here. absurd (grind (arith, nat_tests, here, apart)) in
          omega (arith, seen_other spare 0 lists number new each other)

pub from_ok : {T E P : Type 0} (r : Result T E) → IsOk r → IfOk r (λ _. P) → P
from_ok (Ok x) is fact = fact
from_ok (Err e) is fact = absurd (cc)

-- ---- a key more is kept

module _ (keys : List BoardKey) (i : ℕ) (key : BoardKey) (within : i < length keys) (is : key ≡ get_or keys i key) where
  count_more : (number : ℕ) → length (places_of number (take (i + 1) keys)) ≡ length (places_of number (take i keys)) + cond (nat_eq key.config number) 1 0
  count_more number =
      ap length (places_more number keys i key within is) ∙ length-append (places_of number (take i keys)) (cond (nat_eq key.config number) (key.place ∷ []) [])
      ∙ ap (λ n. length (places_of number (take i keys)) + n) (by (nat_eq key.config number))
    where
      by : (b : Bool) → length (cond b (key.place ∷ []) []) ≡ cond b 1 0
      by true = refl
      by false = refl

  pub room_left : (room : ℕ) → length (places_of key.config keys) ≤ room + length (places_of key.config (take i keys)) → 0 < room
  room_left room enough =
      let more : length (places_of key.config (take (i + 1) keys)) ≡ length (places_of key.config (take i keys)) + 1 =
      count_more key.config ∙ ap (λ (b : Bool). length (places_of key.config (take i keys)) + cond b 1 0) (eq-eqb key.config key.config refl) in
      omega (arith, enough, more, places_most key.config (i + 1) keys)

  pub room_more : (number room new : ℕ) → length (places_of number keys) ≤ room + length (places_of number (take i keys))
      → room ≤ new + (if number == key.config then 1 else 0)
      → length (places_of number keys) ≤ new + length (places_of number (take (i + 1) keys))
  room_more number room new enough left = by (number == key.config) refl left
    where
      by : (b : Bool) → (number == key.config) ≡ b → room ≤ new + cond b 1 0
          → length (places_of number keys) ≤ new + length (places_of number (take (i + 1) keys))
      by true same left =
          let here : nat_eq key.config number ≡ true = eq-eqb key.config number (sym (eqb-true number key.config same)) in
          omega (arith, enough, left, count_more number ∙ ap (λ (b : Bool). length (places_of number (take i keys)) + cond b 1 0) here)
      by false apart left = omega (arith, enough, left, count_more number)

  pub kept_more : (lists new old : List (List (Option Place))) → key.config < length lists
      → new ≡ slice_set lists key.config (with_board (kept_of lists key.config) key.place) → (number : ℕ)
      → kept_of lists number ≡ with_boards (kept_of old number) (places_of number (take i keys))
      → kept_of new number ≡ with_boards (kept_of old number) (places_of number (take (i + 1) keys))
  kept_more lists new old listed now number so_far =
      ap (λ (ls : List (List (Option Place))). kept_of ls number) now ∙ by (nat_eq key.config number) refl
      ∙ sym (ap (with_boards (kept_of old number)) (places_more number keys i key within is)
      ∙ with_boards_append (kept_of old number) (places_of number (take i keys)) (cond (nat_eq key.config number) (key.place ∷ []) []))
    where
      by : (b : Bool) → nat_eq key.config number ≡ b
          → kept_of (slice_set lists key.config (with_board (kept_of lists key.config) key.place)) number ≡ with_boards
          (with_boards (kept_of old number) (places_of number (take i keys))) (cond b (key.place ∷ []) [])
      by true same =
          let here : key.config ≡ number = eqb-true key.config number same in
          ap (λ n. kept_of (slice_set lists key.config (with_board (kept_of lists key.config) key.place)) n) (sym here)
          ∙ get_or-set_same lists key.config (with_board (kept_of lists key.config) key.place) [] listed
          ∙ ap (λ n. with_board (kept_of lists n) key.place) here ∙ ap (λ (kept : List (Option Place)). with_board kept key.place) so_far
      by false apart =
          let other : number ≢ key.config = λ here. absurd (grind (arith, nat_tests, here, apart)) in
          get_or-set_other lists key.config number (with_board (kept_of lists key.config) key.place) [] other ∙ so_far

-- ---- no list has more boards than indexes

pub few_now : {S T : Type 0} (keys : List BoardKey) (ready : List (IndexSet (Option Place) S)) (new : List (IndexSet (Option Place) T)) (number : ℕ)
    → length new ≡ length ready
    → (number < length ready → IsReady keys ready number) → kept_of (keys_of new) number ≡ with_boards (kept_of (keys_of ready) number) (places_of number keys)
    → length (kept_of (keys_of new) number) ≤ most_boards
few_now {S} {T} keys ready new number many each now = by (nat_lt number (length ready)) refl
  where
    by : (b : Bool) → nat_lt number (length ready) ≡ b → length (kept_of (keys_of new) number) ≤ most_boards
    by true within =
        let lt : number < length ready = grind (arith, nat_tests, within) in
        omega (arith, (each lt).few, with_boards_most (kept_of (keys_of ready) number) (places_of number keys), ap length now)
    by false beyond =
        let past : length (keys_of new) ≤ number = grind (arith, nat_tests, beyond, many, length-map new (λ (list : IndexSet (Option Place) T). list.keys)) in
        omega (arith, ap length (get_or_past (keys_of new) number [] past))

-- ---- the index of a board

-- what a vector is after its slice was written
pub whole : {X : Type 0} (xs ys : List X) (n : ℕ) → length xs ≡ n → take n (xs ++ drop (length xs) ys) ≡ xs
whole xs ys n long = ap (λ m. take m (xs ++ drop (length xs) ys)) (sym long) ∙ take-append_seam xs (drop (length xs) ys)

position_past : (place : Option Place) (boards : List (Option Place)) → has_board boards place ≡ false
    → position_or_len (option_eq place_eq place) boards ≡ length boards
position_past place [] none = refl
position_past place (board ∷ boards) none =
    let parts = or_parts (option_eq place_eq place board) (has_board boards place) none in
    let rest = position_past place boards parts.1 in
    let one_more : 1 + position_or_len (option_eq place_eq place) boards ≡ length (board ∷ boards) = omega (arith, rest) in
    ap (λ (same : Bool). cond (not same) (1 + position_or_len (option_eq place_eq place) boards) 0) parts.0 ∙ one_more

-- a board that is not kept would be the next
pub next_index_is : (boards : List (Option Place)) (place : Option Place) (index : ℕ) → None ≡ index_of boards place → index ≡ length boards + 1
    → index ≡ index_in boards place
next_index_is boards place index none is = is ∙ ap (λ n. n + 1) (sym (position_past place boards (by (has_board boards place) none)))
  where
    by : (has : Bool) → None ≡ cond has (Some (index_in boards place)) None → has ≡ false
    by true none = absurd (cc)
    by false none = refl
