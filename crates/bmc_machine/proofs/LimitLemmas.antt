-- After a legal history the boards pass no limit: what comes is refused where they would, and what goes leaves no more.
use Rattle.std.proofs.Common.{◌≡◌, ℕ, ◌≤◌, List, [], ◌∷◌, ◌++◌, Bool, true, false, not, cond, Option, Some, None, map, filter}
use Rattle.std.proofs.Common.{refl, sym, ap, ◌∙◌, subst, arith, nat_lt, nat_le}
use Rattle.std.specs.Prelude.{length, sum_by, is_some, option_map}
use Rattle.std.specs.List.{flat_map, range_with_len}
use Rattle.std.proofs.lemmas.Bool.Decides.{nat_tests}
use Rattle.std.proofs.lemmas.List.Sums.{sum_by-append, sum_by-cons}
use Rattle.std.specs.Ordering.{is_eq}
use Rattle.bmc_base.specs.Places.{Place, place_cmp}
use Rattle.bmc_report.specs.declared.refusal.Refusal.{Refusal}
use Rattle.bmc_report.specs.declared.refusal.Refusal.TheVariants.{Occupied, ConfigAfterPlug, DuplicateName, ConfigLimit}
use Rattle.probe_lang.specs.Sights.{Sight}
use Rattle.cfg_json.specs.Configs.{Config}
use Rattle.cfg_json.specs.Shelves.{most_configs, number_of}
use Rattle.inventory.specs.Boards.{boards_in}
use Rattle.inventory.specs.Differences.{key_of}
use Rattle.inventory.specs.Limits.{most_boards, most_sensors, most_zones, most_fans, most_pids, most_steps, board_counts, totals_of, limit_of, passed_limit}
use Rattle.inventory.specs.declared.limits.Totals.{Totals}
use Rattle.cfg_json.specs.declared.counts.Counts.{Counts}
use Rattle.inventory.specs.Lists.{keys_of}
use Rattle.inventory.specs.declared.board.BoardKey.{BoardKey}
use Rattle.inventory.specs.declared.fault.InventoryFault.{InventoryFault}
use Rattle.inventory.specs.declared.fault.InventoryFault.TheVariants as limits
use Rattle.bmc_machine.specs.Standings.{Fru, is_at, is_present, without, Standing}
use Rattle.bmc_machine.specs.Boards.{sights_of, boards, board_keys}
use Rattle.bmc_machine.specs.Histories.{Step, Start, Configure, Plug, RefusedPlug, Unplug, Read, Lose, Tick, after_step, standing}
use Rattle.bmc_machine.specs.Refusals.{limit_refusal, refusal_by_limit, ◌or_else◌, IsLegalStep, IsLegal}
use Rattle.bmc_machine.proofs.FewerLemmas.{boards_fewer}

-- what is no refusal is no limit
no_limit : (passed : Option InventoryFault) → option_map limit_refusal passed ≡ None → passed ≡ None
no_limit None none = refl
no_limit (Some fault) none = absurd (cc)

-- a limit that is not passed is not passed with fewer
link : (most many few : ℕ) (fault : InventoryFault) (later few_later : Option InventoryFault) → few ≤ many → (later ≡ None → few_later ≡ None)
    → cond (nat_lt most many) (Some fault) later ≡ None → cond (nat_lt most few) (Some fault) few_later ≡ None
link most many few fault later few_later fewer rest none = by (nat_lt most many) refl none
  where
    within : nat_lt most many ≡ false → nat_lt most few ≡ false
    within is = grind (arith, nat_tests, fewer, is)

    by : (test : Bool) → nat_lt most many ≡ test → cond test (Some fault) later ≡ None → cond (nat_lt most few) (Some fault) few_later ≡ None
    by true is none = absurd (cc)
    by false is none = ap (λ (test : Bool). cond test (Some fault) few_later) (within is) ∙ rest none

-- there are no more of each
record AreFewer (few many : Totals) : Type 0 where
  boards : few.boards ≤ many.boards
  sensors : few.sensors ≤ many.sensors
  zones : few.zones ≤ many.zones
  fans : few.fans ≤ many.fans
  pids : few.pids ≤ many.pids
  steps : few.steps ≤ many.steps

-- then no limit is passed that was not
none_more : (few many : Totals) → AreFewer few many → limit_of many ≡ None → limit_of few ≡ None
none_more few many fewer =
    link most_boards many.boards few.boards limits.BoardLimit _ _ fewer.boards
    (link most_sensors many.sensors few.sensors limits.SensorLimit _ _ fewer.sensors
    (link most_zones many.zones few.zones limits.ZoneLimit _ _ fewer.zones
    (link most_fans many.fans few.fans limits.FanLimit _ _ fewer.fans
    (link most_pids many.pids few.pids limits.PidLimit _ _ fewer.pids
    (link most_steps many.steps few.steps limits.StepLimit _ _ fewer.steps (λ none. none))))))

-- ---- fewer boards

-- what boards have by their configuration, summed
module _ (weight : ℕ → ℕ) where
  abbrev total : List BoardKey → ℕ
  total keys = sum_by (λ (key : BoardKey). weight key.config) keys

  total_places : (number : ℕ) (few many : List (Option Place)) → length few ≤ length many → total (map (key_of number) few) ≤ total (map (key_of number) many)
  total_places number [] many fewer = omega arith
  total_places number (place ∷ few) [] fewer = absurd (omega (arith, fewer))
  total_places number (place ∷ few) (other ∷ many) fewer =
      let rest = total_places number few many (omega (arith, fewer)) in
      let few_are = sum_by-cons (λ (key : BoardKey). weight key.config) (key_of number place) (map (key_of number) few) in
      let many_are = sum_by-cons (λ (key : BoardKey). weight key.config) (key_of number other) (map (key_of number) many) in
      omega (arith, rest, few_are, many_are)

  -- boards of which each configuration has fewer have no more in all
  total_fewer : (few many : ℕ → List (Option Place)) → ((number : ℕ) → length (few number) ≤ length (many number)) → (numbers : List ℕ)
      → total (flat_map (λ number. map (key_of number) (few number)) numbers) ≤ total (flat_map (λ number. map (key_of number) (many number)) numbers)
  total_fewer few many fewer [] = omega arith
  total_fewer few many fewer (number ∷ numbers) =
      let first = total_places number (few number) (many number) (fewer number) in
      let rest = total_fewer few many fewer numbers in
      let few_are = sum_by-append (λ (key : BoardKey). weight key.config) (map (key_of number) (few number))
      (flat_map (λ number. map (key_of number) (few number)) numbers) in
      let many_are = sum_by-append (λ (key : BoardKey). weight key.config) (map (key_of number) (many number))
      (flat_map (λ number. map (key_of number) (many number)) numbers) in
      omega (arith, first, rest, few_are, many_are)

length_total : (keys : List BoardKey) → length keys ≡ total (λ number. 1) keys
length_total [] = refl
length_total (key ∷ keys) =
    let rest = length_total keys in
    let more = sum_by-cons (λ (key : BoardKey). 1) key keys in
    omega (arith, rest, more)

-- what the boards of a configuration have
abbrev counts_at : List Config → ℕ → Counts
counts_at configs number = board_counts configs (record { config = number; place = None })

pub keys_fewer : (configs : List Config) (count : ℕ) (few many : ℕ → List (Option Place)) → ((number : ℕ) → length (few number) ≤ length (many number))
    → passed_limit configs (keys_of count many) ≡ None → passed_limit configs (keys_of count few) ≡ None
unfolding passed_limit
keys_fewer configs count few many fewer =
    none_more (totals_of configs (keys_of count few)) (totals_of configs (keys_of count many)) (record {
      boards = less_boards;
      sensors = less (λ number. (counts_at configs number).sensors);
      zones = less (λ number. (counts_at configs number).zones);
      fans = less (λ number. (counts_at configs number).fans);
      pids = less (λ number. (counts_at configs number).pids);
      steps = less (λ number. (counts_at configs number).steps);
    })
  where
    less : (weight : ℕ → ℕ) → total weight (keys_of count few) ≤ total weight (keys_of count many)
    less weight = total_fewer weight few many fewer (range_with_len 0 count)

    less_boards : length (keys_of count few) ≤ length (keys_of count many)
    less_boards =
        let few_are = length_total (keys_of count few) in
        let many_are = length_total (keys_of count many) in
        let no_more = less (λ number. 1) in
        omega (arith, few_are, many_are, no_more)

-- ---- histories

-- no limit is passed there
abbrev IsWithin : Standing → Type 0
IsWithin now = passed_limit now.configs (board_keys now) ≡ None

-- the sights of the FRUs that stay are those that are not at the place
sights_without : (configs : List Config) (place : Place) (frus : List Fru)
    → sights_of configs (without place frus) ≡ filter (λ (sight : Sight). not (is_eq (place_cmp place sight.place))) (sights_of configs frus)
sights_without configs place [] = refl
sights_without configs place (fru ∷ frus) = by (is_at place fru) (sights_without configs place frus)
  where
    later : List Sight
    later = filter (λ (sight : Sight). not (is_eq (place_cmp place sight.place))) (sights_of configs frus)

    first : List Sight
    first = sights_of configs (fru ∷ [])

    by : (gone : Bool) → sights_of configs (without place frus) ≡ later
        → sights_of configs (cond (not gone) (fru ∷ without place frus) (without place frus)) ≡ cond (not gone) (first ++ later) later
    by true rest = rest
    by false rest = ap (λ (sights : List Sight). first ++ sights) rest

-- where a FRU is taken away
without_within : (now : Standing) (place : Place) → IsWithin now → IsWithin (after_step now (Unplug place))
unfolding board_keys boards
without_within now place within =
    keys_fewer now.configs (length now.configs) (λ number. boards_in now.configs (sights_of now.configs (without place now.frus)) number)
    (λ number. boards_in now.configs (sights_of now.configs now.frus) number)
    (λ number. subst (λ (sights : List Sight). length (boards_in now.configs sights number)
    ≤ length (boards_in now.configs (sights_of now.configs now.frus) number))
    (sym (sights_without now.configs place now.frus))
    (boards_fewer now.configs (λ (sight : Sight). not (is_eq (place_cmp place sight.place))) (sights_of now.configs now.frus) number)) within

-- what is not refused by a limit passes none
not_refused : (now : Standing) → refusal_by_limit now ≡ None → IsWithin now
not_refused now none = no_limit (passed_limit now.configs (board_keys now)) none

-- where no refusal applies the later one does not
last_of : (first later : Option Refusal) → (first or_else later) ≡ None → later ≡ None
last_of None later none = none
last_of (Some refusal) later none = absurd (cc)

within_next : (past : List Step) (step : Step) → IsLegalStep past step → IsWithin (standing past) → IsWithin (after_step (standing past) step)
within_next past (Start options) legal within = within
within_next past (Configure config) legal within =
    not_refused _ (by (standing past).plugged (is_some (number_of (standing past).configs config.name))
    (nat_le most_configs (length (standing past).configs)) legal)
  where
    by_limit : Option Refusal
    by_limit = refusal_by_limit (after_step (standing past) (Configure config))

    by : (plugged named full : Bool)
        → cond plugged (Some ConfigAfterPlug) (cond named (Some DuplicateName) (cond full (Some ConfigLimit) by_limit)) ≡ None → by_limit ≡ None
    by true named full none = absurd (cc)
    by false true full none = absurd (cc)
    by false false true none = absurd (cc)
    by false false false none = none
within_next past (Plug place bytes) legal within =
    not_refused _ (by (is_present (standing past).frus place) _ legal)
  where
    by_limit : Option Refusal
    by_limit = refusal_by_limit (after_step (standing past) (Plug place bytes))

    by : (present : Bool) (broken : Option Refusal) → cond present (Some Occupied) (broken or_else by_limit) ≡ None → by_limit ≡ None
    by true broken none = absurd (cc)
    by false broken none = last_of broken by_limit none
within_next past (RefusedPlug place bytes refusal) legal within = within
within_next past (Unplug place) legal within = without_within (standing past) place within
within_next past (Read name raw) legal within = within
within_next past (Lose name) legal within = within
within_next past Tick legal within = within

pub limits_hold : (past : List Step) → IsLegal past → passed_limit (standing past).configs (board_keys (standing past)) ≡ None
unfolding IsLegal standing board_keys passed_limit
limits_hold [] legal = refl
limits_hold (step ∷ past) legal = within_next past step legal.1 (limits_hold past legal.0)
