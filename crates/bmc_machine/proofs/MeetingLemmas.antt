-- The index of a board is one more than the number of boards of its configuration that were first met before it.
use Rattle.std.proofs.Common.{◌≡◌, ℕ, suc, ◌+◌, ◌≤◌, List, [], ◌∷◌, ◌++◌, Bool, true, false, not, cond, ◌&&◌, ◌||◌, nat_lt, Option, None}
use Rattle.std.proofs.Common.{filter, map, refl, sym, ap, ap₂, ◌∙◌, arith, subst, inl, inr}
use mathlib.Core.List.{map-map}
use Rattle.std.specs.Prelude.{length}
use Rattle.std.specs.Option.{option_eq, option_cmp}
use Rattle.std.specs.List.{AllByRecursion, IsDistinct}
use Rattle.std.specs.List.Sorted.{IsStrictlySortedBy}
use Rattle.std.proofs.lemmas.Bool.{eq-eqb, not-true, false_from_ne_true, both_ways, or_cases, or_left, or_right}
use Rattle.std.proofs.lemmas.Bool.Decides.{nat_tests}
use Rattle.std.proofs.lemmas.List.{length-append}
use Rattle.std.proofs.lemmas.List.Elements.{filter-append}
use Rattle.bmc_base.specs.Places.{Place, place_cmp, place_eq}
use Rattle.cfg_json.specs.Configs.{Config}
use Rattle.probe_lang.specs.Sights.{Sight}
use Rattle.match_rows.specs.Matching.{sight_of}
use Rattle.inventory.specs.Boards.{boards_in, has_board}
use Rattle.inventory.specs.Indexes.{except, index_in}
use Rattle.bmc_machine.specs.Standings.{Fru, fields_of}
use Rattle.bmc_machine.specs.Boards.{sights_of, boards}
use Rattle.bmc_machine.specs.Histories.{Step, standing}
use Rattle.bmc_machine.specs.Indexes.{had_board, kept}
use Rattle.bmc_machine.specs.Meetings.{Meeting, position_of, first_met, is_earlier, met_before}
use Rattle.bmc_machine.specs.Refusals.{IsLegal}
use Rattle.inventory.proofs.BoardLemmas.{board_itself, board_same}
use Rattle.inventory.proofs.BoardsLemmas.{ascending_differ, board_places_ascend}
use Rattle.bmc_machine.proofs.IndexLemmas.{kept_had, position_front}
use Rattle.inventory.proofs.ListLemmas.{all_weaker, all_passes, distinct_filter, distinct_append, filter_alike}
use Rattle.inventory.proofs.ListLemmas.{filter_none, filter_all}
use Rattle.bmc_machine.proofs.StandingLemmas.{places, frus_ascend}
use Rattle.bmc_machine.proofs.PositionLemmas.{position_behind, is_before, count_before}

-- ---- the boards of one moment differ

-- the FRUs that are seen are those that are present
sights_ascend : (configs : List Config) (frus : List Fru) → IsStrictlySortedBy place_cmp (places frus)
    → IsStrictlySortedBy place_cmp (map (λ (sight : Sight). sight.place) (sights_of configs frus))
sights_ascend configs frus ascend =
    subst (IsStrictlySortedBy place_cmp) (sym (map-map (λ (sight : Sight). sight.place) (λ fru. sight_of configs fru.place (fields_of fru)) frus)) ascend

-- they ascend by place
pub boards_ascend : (past : List Step) (number : ℕ) → IsLegal past → IsStrictlySortedBy (option_cmp place_cmp) (boards (standing past) number)
unfolding boards boards_in
boards_ascend past number legal =
    board_places_ascend (standing past).configs _ _ (sights_of (standing past).configs (standing past).frus) number
    (sights_ascend (standing past).configs (standing past).frus (frus_ascend past legal))

pub boards_differ : (past : List Step) (number : ℕ) → IsLegal past → IsDistinct (option_eq place_eq) (boards (standing past) number)
boards_differ past number legal = ascending_differ (boards (standing past) number) (boards_ascend past number legal)

-- ---- when boards were met

all_has : (boards : List (Option Place)) → AllByRecursion (λ place. has_board boards place ≡ true) boards
all_has [] = tt
all_has (board ∷ boards) = (or_left _ _ (board_itself board), all_weaker _ _ (λ place has. or_right _ _ has) boards (all_has boards))

all_had : (past : List Step) (number : ℕ) → AllByRecursion (λ place. had_board past number place ≡ true) (kept past number)
all_had past number = all_weaker _ _ (λ place has. sym (kept_had past number place) ∙ has) (kept past number) (all_has (kept past number))

met_within : (past : List Step) (number : ℕ) (place : Option Place) → (first_met past number place).steps ≤ length past
met_within [] number place = omega arith
met_within (step ∷ past) number place = by (had_board past number place) (met_within past number place)
  where
    now : Meeting
    now = record { steps = length (step ∷ past); position = position_of place (boards (standing (step ∷ past)) number) }

    by : (had : Bool) → (first_met past number place).steps ≤ length past → (cond had (first_met past number place) now).steps ≤ length (step ∷ past)
    by true within = omega (arith, within)
    by false within = omega arith

late : (n m p q : ℕ) → m ≤ n → is_earlier (record { steps = suc n; position = p }) (record { steps = m; position = q }) ≡ false
late n m p q within = grind (arith, nat_tests, within)

soon : (n m p q : ℕ) → m ≤ n → is_earlier (record { steps = m; position = p }) (record { steps = suc n; position = q }) ≡ true
soon n m p q within = grind (arith, nat_tests, within)

level : (n p q : ℕ) → is_earlier (record { steps = n; position = p }) (record { steps = n; position = q }) ≡ nat_lt p q
level n p q = ap₂ (λ (less same : Bool). less || (same && nat_lt p q)) (not_below n) (eq-eqb n n refl)
  where
    not_below : (n : ℕ) → nat_lt n n ≡ false
    not_below n = grind (arith, nat_tests)

-- how many of these boards were met before a place
abbrev count_earlier : List Step → ℕ → Option Place → List (Option Place) → ℕ
count_earlier past number place boards = length (filter (λ other. is_earlier (first_met past number other) (first_met past number place)) boards)

module _ (step : Step) (past : List Step) (number : ℕ) (place : Option Place) where
  abbrev now : List (Option Place)
  now = boards (standing (step ∷ past)) number

  abbrev added : List (Option Place)
  added = except (had_board past number) now

  -- when a board was met first, by whether it was there before the step
  abbrev met : Bool → Option Place → Meeting
  met had other = cond had (first_met past number other) (record { steps = suc (length past); position = position_of other now })

  abbrev earlier : Option Place → Bool
  earlier other = is_earlier (first_met (step ∷ past) number other) (first_met (step ∷ past) number place)

  all_added : AllByRecursion (λ other. had_board past number other ≡ false) added
  all_added = all_weaker _ _ (λ other is. not-true _ is) added (all_passes (λ other. not (had_board past number other)) now)

  count_parts : length (filter earlier (kept past number ++ added)) ≡ length (filter earlier (kept past number)) + length (filter earlier added)
  count_parts = ap length (filter-append earlier (kept past number) added) ∙ length-append (filter earlier (kept past number)) (filter earlier added)

  -- a board that was there before the step: those that are added are met later
  count_old : had_board past number place ≡ true → index_in (kept past number) place ≡ 1 + length (met_before past number place)
      → index_in (kept past number ++ added) place ≡ 1 + count_earlier (step ∷ past) number place (kept past number ++ added)
  count_old had before =
      let front : position_of place (kept past number ++ added) ≡ position_of place (kept past number) =
      position_front (option_eq place_eq place) (kept past number) added (kept_had past number place ∙ had) in
      let old : filter earlier (kept past number) ≡ met_before past number place =
      filter_alike _ _ (kept past number) (all_weaker _ _ as_before (kept past number) (all_had past number)) in
      let new : filter earlier added ≡ [] = filter_none earlier added (all_weaker _ _ is_late added all_added) in
      omega (arith, front, before, count_parts, ap length old, ap length new)
    where
      as_before : (other : Option Place) → had_board past number other ≡ true
          → earlier other ≡ is_earlier (first_met past number other) (first_met past number place)
      as_before other is = ap₂ (λ (one two : Bool). is_earlier (met one other) (met two place)) is had

      is_late : (other : Option Place) → had_board past number other ≡ false → earlier other ≡ false
      is_late other is =
          ap₂ (λ (one two : Bool). is_earlier (met one other) (met two place)) is had
          ∙ late (length past) (first_met past number place).steps (position_of other now) (first_met past number place).position (met_within past number place)

  -- one that is met for the first time: those that were there are met earlier, and of those that are added the ones before it
  count_new : had_board past number place ≡ false → IsDistinct (option_eq place_eq) now → has_board now place ≡ true
      → index_in (kept past number ++ added) place ≡ 1 + count_earlier (step ∷ past) number place (kept past number ++ added)
  count_new had differ has =
      let behind : position_of place (kept past number ++ added) ≡ length (kept past number) + position_of place added =
      position_behind place (kept past number) added (kept_had past number place ∙ had) in
      let old : filter earlier (kept past number) ≡ kept past number =
      filter_all earlier (kept past number) (all_weaker _ _ is_soon (kept past number) (all_had past number)) in
      let new : filter earlier added ≡ filter (is_before now place) added = filter_alike _ _ added (all_weaker _ _ by_position added all_added) in
      omega (arith, behind, count_parts, ap length old, ap length new, count_before (had_board past number) place now differ had has)
    where
      is_soon : (other : Option Place) → had_board past number other ≡ true → earlier other ≡ true
      is_soon other is =
          ap₂ (λ (one two : Bool). is_earlier (met one other) (met two place)) is had
          ∙ soon (length past) (first_met past number other).steps (first_met past number other).position (position_of place now) (met_within past number other)

      by_position : (other : Option Place) → had_board past number other ≡ false → earlier other ≡ is_before now place other
      by_position other is =
          ap₂ (λ (one two : Bool). is_earlier (met one other) (met two place)) is had
          ∙ level (suc (length past)) (position_of other now) (position_of place now)

pub index_counts : (past : List Step) (number : ℕ) (place : Option Place) → IsLegal past → had_board past number place ≡ true
    → index_in (kept past number) place ≡ 1 + length (met_before past number place)
unfolding kept IsLegal
index_counts [] number place legal had = absurd (cc)
index_counts (step ∷ past) number place legal had = by (had_board past number place) refl (index_counts past number place legal.0)
  where
    by : (before : Bool) → had_board past number place ≡ before
        → (had_board past number place ≡ true → index_in (kept past number) place ≡ 1 + length (met_before past number place))
        → index_in (kept (step ∷ past) number) place ≡ 1 + length (met_before (step ∷ past) number place)
    by true is rest = count_old step past number place is (rest is)
    by false is rest = count_new step past number place is (boards_differ (step ∷ past) number legal) has
      where
        has : has_board (boards (standing (step ∷ past)) number) place ≡ true
        has =
            elim (or_cases (has_board (boards (standing (step ∷ past)) number) place) (had_board past number place) had) [
              | inl now ↦ now
              | inr before ↦ absurd (both_ways _ is before)
            ]

-- no board is kept twice
pub kept_differ : (past : List Step) (number : ℕ) → IsLegal past → IsDistinct (option_eq place_eq) (kept past number)
unfolding kept IsLegal IsDistinct
kept_differ [] number legal = tt
kept_differ (step ∷ past) number legal =
    distinct_append (option_eq place_eq) (kept past number) new (kept_differ past number legal.0)
    (distinct_filter (option_eq place_eq) _ (boards (standing (step ∷ past)) number) (boards_differ (step ∷ past) number legal))
    (all_weaker _ _ apart (kept past number) (all_had past number))
  where
    new : List (Option Place)
    new = except (had_board past number) (boards (standing (step ∷ past)) number)

    apart : (place : Option Place) → had_board past number place ≡ true → AllByRecursion (λ other. option_eq place_eq place other ≡ false) new
    apart place had =
        all_weaker _ _
        (λ other not_had. false_from_ne_true _ (λ same. both_ways _ not_had (ap (had_board past number) (sym (board_same place other same)) ∙ had)))
        new (all_added step past number None)
