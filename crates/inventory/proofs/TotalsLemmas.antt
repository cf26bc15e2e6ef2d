-- Totals where some boards go and others come.
use Rattle.std.proofs.Common.{◌≡◌, ◌∙◌, ℕ, zero, suc, ◌+◌, ◌*◌, ◌-◌, Bool, true, false, not, cond, ◌||◌, List, [], ◌∷◌, ◌++◌, length, map, filter}
use Rattle.std.proofs.Common.{Option, None, refl, sym, ap, ap₂, arith, length-append}
use Rattle.std.specs.Option.{option_eq}
use Rattle.std.specs.List.{AllByRecursion, IsDistinct, flat_map, range_with_len, sum_by}
use Rattle.std.proofs.Math.Nat.{add-mul}
use Rattle.std.proofs.lemmas.List.{length-map}
use Rattle.std.proofs.lemmas.List.Filters.{length-filter_both}
use Rattle.std.proofs.lemmas.List.Sums.{sum_by-append, sum_by-cons}
use Rattle.bmc_base.specs.Places.{Place, place_eq}
use Rattle.cfg_json.specs.Configs.{Config}
use Rattle.inventory.specs.declared.board.BoardKey.{BoardKey}
use Rattle.inventory.specs.Boards.{has_board}
use Rattle.inventory.specs.Differences.{key_of, keys_left}
use Rattle.inventory.specs.Indexes.{except}
use Rattle.inventory.specs.Limits.{board_counts, fans_of, pids_of, sensors_of, steps_of, totals_of, totals_after, zones_of}
use Rattle.inventory.specs.Lists.{keys_of}
use Rattle.inventory.specs.Moments.{AreAscending}
use Rattle.inventory.proofs.BoardLemmas.{board_same, board_swap}
use Rattle.inventory.proofs.BoardsLemmas.{ascending_differ}
use Rattle.inventory.proofs.ListLemmas.{all_any, all_weaker, filter_none}

-- ---- boards that are in both of two lists

-- those that pass one of two tests, of which none passes both
either_passes : {X : Type 0} (one other : X → Bool) (xs : List X) → AllByRecursion (λ (each : X). one each ≡ true → other each ≡ false) xs
    → length (filter (λ (each : X). one each || other each) xs) ≡ length (filter one xs) + length (filter other xs)
either_passes one other [] apart = refl
either_passes {X} one other (first ∷ xs) apart = by (one first) (other first) apart.0 (either_passes one other xs apart.1)
  where
    either : List X
    either = filter (λ (each : X). one each || other each) xs

    by : (is also : Bool) → (is ≡ true → also ≡ false) → length either ≡ length (filter one xs) + length (filter other xs)
        → length (cond (is || also) (first ∷ either) either)
        ≡ length (cond is (first ∷ filter one xs) (filter one xs)) + length (cond also (first ∷ filter other xs) (filter other xs))
    by true true never rest = absurd (let no : true ≡ false = never refl in cc)
    by true false never rest = omega (arith, rest)
    by false true never rest = omega (arith, rest)
    by false false never rest = rest

-- among boards that differ one is at most once
one_is : (board : Option Place) (boards : List (Option Place)) → IsDistinct (option_eq place_eq) boards
    → length (filter (λ (each : Option Place). option_eq place_eq each board) boards) ≡ cond (has_board boards board) 1 0
unfolding IsDistinct
one_is board [] differ = refl
one_is board (first ∷ boards) differ = by (option_eq place_eq first board) refl (one_is board boards differ.1)
  where
    those : List (Option Place)
    those = filter (λ (each : Option Place). option_eq place_eq each board) boards

    by : (same : Bool) → option_eq place_eq first board ≡ same → length those ≡ cond (has_board boards board) 1 0
        → length (cond same (first ∷ those) those) ≡ cond (option_eq place_eq board first || has_board boards board) 1 0
    by true is rest =
        let one : option_eq place_eq board first ≡ true = board_swap board first ∙ is in
        let here : first ≡ board = board_same first board is in
        let none : those ≡ [] =
        filter_none _ boards (all_weaker _ _ (λ (each : Option Place) apart.
        board_swap each board ∙ ap (λ (place : Option Place). option_eq place_eq place each) (sym here) ∙ apart) boards differ.0) in
        ap (λ (rest : List (Option Place)). length (first ∷ rest)) none
        ∙ sym (ap (λ (same : Bool). cond (same || has_board boards board) 1 0) one)
    by false is rest = rest ∙ sym (ap (λ (same : Bool). cond (same || has_board boards board) 1 0) (board_swap board first ∙ is))

-- as many boards of one list are in the other as of the other are in the first
both_ways : (one other : List (Option Place)) → IsDistinct (option_eq place_eq) one → IsDistinct (option_eq place_eq) other
    → length (filter (has_board one) other) ≡ length (filter (has_board other) one)
unfolding IsDistinct
both_ways [] other differ other_differ = ap length (filter_none _ other (all_any _ (λ (each : Option Place). refl) other))
both_ways (first ∷ one) other differ other_differ =
    either_passes (λ (each : Option Place). option_eq place_eq each first) (has_board one) other (all_any _ never other)
    ∙ ap₂ (λ m n. m + n) (one_is first other other_differ) (both_ways one other differ.1 other_differ)
    ∙ by (has_board other first)
  where
    none : (one : List (Option Place)) → AllByRecursion (λ (each : Option Place). option_eq place_eq first each ≡ false) one → has_board one first ≡ false
    none [] apart = refl
    none (second ∷ one) apart = ap₂ (λ (same later : Bool). same || later) apart.0 (none one apart.1)

    never : (each : Option Place) → option_eq place_eq each first ≡ true → has_board one each ≡ false
    never each same = ap (has_board one) (board_same each first same) ∙ none one differ.0

    by : (has : Bool) → cond has 1 0 + length (filter (has_board other) one)
        ≡ length (cond has (first ∷ filter (has_board other) one) (filter (has_board other) one))
    by true = omega arith
    by false = omega arith

-- ---- what adds up over keys

-- the keys of the boards of so many configurations from one on
abbrev pub keys_by : (ℕ → List (Option Place)) → ℕ → ℕ → List BoardKey
keys_by places from count = flat_map (λ number. map (key_of number) (places number)) (range_with_len from count)

-- a measure that adds up, and has the same weight at each board of a configuration
module _ (measure : List BoardKey → ℕ) (weight : ℕ → ℕ) (none : measure [] ≡ 0)
    (both : (front back : List BoardKey) → measure (front ++ back) ≡ measure front + measure back)
    (block : (number : ℕ) (places : List (Option Place)) → measure (map (key_of number) places) ≡ length places * weight number) where
  -- where the boards of each configuration are parted, the measures of both parts add up
  parts : (some others all : ℕ → List (Option Place)) → ((number : ℕ) → length (some number) + length (others number) ≡ length (all number))
      → (from count : ℕ) → measure (keys_by some from count) + measure (keys_by others from count) ≡ measure (keys_by all from count)
  parts some others all add from zero = omega (arith, none)
  parts some others all add from (suc count) =
      let first : measure (keys_by some from (suc count)) ≡ length (some from) * weight from + measure (keys_by some (from + 1) count) =
      each some in
      let second : measure (keys_by others from (suc count)) ≡ length (others from) * weight from + measure (keys_by others (from + 1) count) =
      each others in
      let third : measure (keys_by all from (suc count)) ≡ length (all from) * weight from + measure (keys_by all (from + 1) count) =
      each all in
      let here : length (some from) * weight from + length (others from) * weight from ≡ length (all from) * weight from =
      sym (add-mul (length (some from)) (length (others from)) (weight from)) ∙ ap (λ n. n * weight from) (add from) in
      let later : measure (keys_by some (from + 1) count) + measure (keys_by others (from + 1) count) ≡ measure (keys_by all (from + 1) count) =
      parts some others all add (from + 1) count in
      ap₂ (λ m n. m + n) first second
      ∙ by (length (some from) * weight from) (length (others from) * weight from) (length (all from) * weight from) _ _ _ here later ∙ sym third
    where
      each : (places : ℕ → List (Option Place)) → measure (keys_by places from (suc count))
          ≡ length (places from) * weight from + measure (keys_by places (from + 1) count)
      each places =
          both (map (key_of from) (places from)) (keys_by places (from + 1) count)
          ∙ ap (λ n. n + measure (keys_by places (from + 1) count)) (block from (places from))

      by : (a b c d e f : ℕ) → a + b ≡ c → d + e ≡ f → (a + d) + (b + e) ≡ c + f
      by a b c d e f one other = omega (arith, one, other)

  -- the boards that go taken away and those that come added
  measure_after : (before after : ℕ → List (Option Place)) → ((number : ℕ) → AreAscending (before number)) → ((number : ℕ) → AreAscending (after number))
      → (count : ℕ) → measure (keys_of count before) - measure (keys_left count before after) + measure (keys_left count after before)
      ≡ measure (keys_of count after)
  measure_after before after ascend ascend_after count =
      let gone : measure (keys_by stay 0 count) + measure (keys_left count before after) ≡ measure (keys_of count before) =
      parts stay (λ number. except (has_board (after number)) (before number)) before stay_before 0 count in
      let new : measure (keys_by stay 0 count) + measure (keys_left count after before) ≡ measure (keys_of count after) =
      parts stay (λ number. except (has_board (before number)) (after number)) after stay_after 0 count in
      by (measure (keys_by stay 0 count)) _ _ _ _ gone new
    where
      stay : ℕ → List (Option Place)
      stay number = filter (has_board (after number)) (before number)

      stay_before : (number : ℕ) → length (stay number) + length (except (has_board (after number)) (before number)) ≡ length (before number)
      stay_before number =
          length-filter_both (has_board (after number)) (λ place. not (has_board (after number) place)) (λ place. refl) (before number)

      stay_after : (number : ℕ) → length (stay number) + length (except (has_board (before number)) (after number)) ≡ length (after number)
      stay_after number =
          ap (λ n. n + length (except (has_board (before number)) (after number)))
          (both_ways (after number) (before number) (ascending_differ _ (ascend_after number)) (ascending_differ _ (ascend number)))
          ∙ length-filter_both (has_board (before number)) (λ place. not (has_board (before number) place)) (λ place. refl) (after number)

      by : (stay left new before after : ℕ) → stay + left ≡ before → stay + new ≡ after → before - left + new ≡ after
      by stay left new before after one other = omega (arith, one, other)

-- ---- totals

-- a sum over the boards of one configuration, each of which counts alike
sum_block : (count : BoardKey → ℕ) (weight : ℕ → ℕ) → ((number : ℕ) (place : Option Place) → count (key_of number place) ≡ weight number)
    → (number : ℕ) (places : List (Option Place)) → sum_by count (map (key_of number) places) ≡ length places * weight number
sum_block count weight alike number [] = omega arith
sum_block count weight alike number (place ∷ places) =
    sum_by-cons count (key_of number place) (map (key_of number) places)
    ∙ ap₂ (λ m n. m + n) (alike number place) (sum_block count weight alike number places) ∙ next (length places) (weight number)
  where
    next : (n w : ℕ) → w + n * w ≡ suc n * w
    next n w = let more : (1 + n) * w ≡ 1 * w + n * w = add-mul 1 n w in omega (arith, more)

-- how many exposes of a kind a board has is told by its configuration
module _ (configs : List Config) where
  abbrev sensors_at : BoardKey → ℕ
  sensors_at key = (board_counts configs key).sensors

  abbrev zones_at : BoardKey → ℕ
  zones_at key = (board_counts configs key).zones

  abbrev fans_at : BoardKey → ℕ
  fans_at key = (board_counts configs key).fans

  abbrev pids_at : BoardKey → ℕ
  pids_at key = (board_counts configs key).pids

  abbrev steps_at : BoardKey → ℕ
  steps_at key = (board_counts configs key).steps

-- the boards that go taken away and those that come added, they are the totals of the boards behind
pub totals_add_up : (configs : List Config) (count : ℕ) (before after : ℕ → List (Option Place)) → ((number : ℕ) → AreAscending (before number))
    → ((number : ℕ) → AreAscending (after number))
    → totals_after configs (totals_of configs (keys_of count before)) (keys_left count before after) (keys_left count after before)
    ≡ totals_of configs (keys_of count after)
totals_add_up configs count before after ascend ascend_after =
    λ i. record { boards = boards i; sensors = sensors i; zones = zones i; fans = fans i; pids = pids i; steps = steps i }
  where
    boards : length (keys_of count before) - length (keys_left count before after) + length (keys_left count after before) ≡ length (keys_of count after)
    boards =
        measure_after length (λ number. 1) refl (λ front back. length-append front back)
        (λ number places. length-map places (key_of number) ∙ omega arith) before after ascend ascend_after count

    sensors : sensors_of configs (keys_of count before) - sensors_of configs (keys_left count before after) + sensors_of configs (keys_left count after before)
        ≡ sensors_of configs (keys_of count after)
    sensors =
        measure_after (sensors_of configs) (λ number. sensors_at configs (record { config = number; place = None })) refl
        (λ front back. sum_by-append (sensors_at configs) front back)
        (sum_block (sensors_at configs) _ (λ number place. refl)) before after ascend ascend_after count

    zones : zones_of configs (keys_of count before) - zones_of configs (keys_left count before after) + zones_of configs (keys_left count after before)
        ≡ zones_of configs (keys_of count after)
    zones =
        measure_after (zones_of configs) (λ number. zones_at configs (record { config = number; place = None })) refl
        (λ front back. sum_by-append (zones_at configs) front back)
        (sum_block (zones_at configs) _ (λ number place. refl)) before after ascend ascend_after count

    fans : fans_of configs (keys_of count before) - fans_of configs (keys_left count before after) + fans_of configs (keys_left count after before)
        ≡ fans_of configs (keys_of count after)
    fans =
        measure_after (fans_of configs) (λ number. fans_at configs (record { config = number; place = None })) refl
        (λ front back. sum_by-append (fans_at configs) front back)
        (sum_block (fans_at configs) _ (λ number place. refl)) before after ascend ascend_after count

    pids : pids_of configs (keys_of count before) - pids_of configs (keys_left count before after) + pids_of configs (keys_left count after before)
        ≡ pids_of configs (keys_of count after)
    pids =
        measure_after (pids_of configs) (λ number. pids_at configs (record { config = number; place = None })) refl
        (λ front back. sum_by-append (pids_at configs) front back)
        (sum_block (pids_at configs) _ (λ number place. refl)) before after ascend ascend_after count

    steps : steps_of configs (keys_of count before) - steps_of configs (keys_left count before after) + steps_of configs (keys_left count after before)
        ≡ steps_of configs (keys_of count after)
    steps =
        measure_after (steps_of configs) (λ number. steps_at configs (record { config = number; place = None })) refl
        (λ front back. sum_by-append (steps_at configs) front back)
        (sum_block (steps_at configs) _ (λ number place. refl)) before after ascend ascend_after count
