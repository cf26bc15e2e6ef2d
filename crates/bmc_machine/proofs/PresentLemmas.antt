-- The FRU of a board is present. A step leaves the configuration and the fields of a board that is there before and after it.
use Rattle.std.proofs.Common.{◌≡◌, ℕ, zero, suc, List, [], ◌∷◌, ◌++◌, Bool, true, false, not, cond, ◌||◌, Option, Some, None, map, filter}
use Rattle.std.proofs.Common.{refl, sym, ap, ap₂, ◌∙◌, inl, inr, slice_get, option_map}
use Rattle.std.specs.Prelude.{find, is_some, option_and_then}
use Rattle.std.specs.Option.{unwrap_or}
use Rattle.std.specs.List.{list_any}
use Rattle.std.specs.Ordering.{is_lt}
use Rattle.std.proofs.lemmas.Bool.{false_from_ne_true, both_ways, or_cases, or_left, or_right}
use Rattle.bmc_base.specs.Places.{Place, place_cmp, place_eq}
use Rattle.probe_lang.specs.Sights.{Sight}
use Rattle.cfg_json.specs.Configs.{Config}
use Rattle.found_set.specs.Found.{is_found, is_reached, on_buses}
use Rattle.inventory.specs.Boards.{places_or_none, config_places, board_places, rules_of, boards_in, has_board}
use Rattle.inventory.proofs.BoardLemmas.{place_cmp_eq, place_same}
use Rattle.bmc_machine.specs.Standings.{Fru, fields_of, is_at, is_present, put, without, Standing}
use Rattle.bmc_machine.specs.Boards.{sights_of, sights, boards, fields_at}
use Rattle.bmc_machine.specs.Histories.{Step, Start, Configure, Plug, RefusedPlug, Unplug, Read, Lose, Tick, after_step, standing}
use Rattle.bmc_machine.specs.Refusals.{IsLegalStep}
use Rattle.bmc_machine.proofs.StandingLemmas.{free_place}

-- ---- the FRU of a board

any_filter : {X : Type 0} (test keep : X → Bool) (xs : List X) → list_any test (filter keep xs) ≡ true → list_any test xs ≡ true
any_filter test keep [] any = any
any_filter {X} test keep (first ∷ xs) any = by (keep first) any (any_filter test keep xs)
  where
    by : (keeps : Bool) → list_any test (cond keeps (first ∷ filter keep xs) (filter keep xs)) ≡ true
        → (list_any test (filter keep xs) ≡ true → list_any test xs ≡ true) → (test first || list_any test xs) ≡ true
    by true any rest =
        elim (or_cases (test first) (list_any test (filter keep xs)) any) [ inl here ↦ or_left _ _ here | inr later ↦ or_right _ _ (rest later) ]
    by false any rest = or_right _ _ (rest any)

-- whether one of these is at a place
abbrev shows : Place → List Sight → Bool
shows place seen = list_any (λ (sight : Sight). place_eq place sight.place) seen

any_place : (place : Place) (seen : List Sight) → has_board (map Some (map (λ (sight : Sight). sight.place) seen)) (Some place) ≡ shows place seen
any_place place [] = refl
any_place place (sight ∷ seen) = ap (λ (later : Bool). place_eq place sight.place || later) (any_place place seen)

any_board : (match_one : Bool) (place : Place) (seen : List Sight)
    → has_board (places_or_none match_one (map (λ (sight : Sight). sight.place) seen)) (Some place) ≡ true → shows place seen ≡ true
any_board match_one place [] has = absurd (cc)
any_board true place (sight ∷ seen) has =
    elim (or_cases (place_eq place sight.place) false has) [ inl here ↦ or_left _ _ here | inr later ↦ absurd (cc) ]
any_board false place (sight ∷ seen) has = sym (any_place place (sight ∷ seen)) ∙ has

any_sight : (configs : List Config) (place : Place) (frus : List Fru) → shows place (sights_of configs frus) ≡ is_present frus place
any_sight configs place [] = refl
any_sight configs place (fru ∷ frus) =
    ap₂ (λ (here later : Bool). here || later) (sym (place_cmp_eq place fru.place)) (any_sight configs place frus)

module _ (now : Standing) (number : ℕ) where
  abbrev found : ℕ → Bool
  found = is_found (rules_of now.configs) (sights now)

  abbrev reach : ℕ → Bool
  reach = is_reached (rules_of now.configs) (sights now)

  -- the boards that a configuration has, if there is one
  abbrev boards_by : Option Config → List (Option Place)
  boards_by config = unwrap_or (option_map (config_places found reach (sights now) number) config) []

  pub board_is_present : (place : Place) → has_board (boards now number) (Some place) ≡ true → is_present now.frus place ≡ true
  unfolding boards boards_in board_places
  board_is_present place has = by (slice_get now.configs number) has
    where
      seen : List Sight
      seen = filter (λ (sight : Sight). sight.hit number) (on_buses reach (sights now))

      if_found : (is : Bool) (match_one : Bool)
          → has_board (cond is (places_or_none match_one (map (λ (sight : Sight). sight.place) seen)) []) (Some place) ≡ true → shows place seen ≡ true
      if_found true match_one has = any_board match_one place seen has
      if_found false match_one has = absurd (cc)

      by : (config : Option Config) → has_board (boards_by config) (Some place) ≡ true → is_present now.frus place ≡ true
      by None has = absurd (cc)
      by (Some config) has =
          sym (any_sight now.configs place now.frus)
          ∙ any_filter (λ (sight : Sight). place_eq place sight.place) (λ (sight : Sight). reach sight.place.bus) (sights now)
          (any_filter (λ (sight : Sight). place_eq place sight.place) (λ (sight : Sight). sight.hit number) (on_buses reach (sights now))
          (if_found (found number) config.probe.match_one has))

  board_has_config : (place : Option Place) → has_board (boards now number) place ≡ true → is_some (slice_get now.configs number) ≡ true
  unfolding boards boards_in board_places
  board_has_config place has = by (slice_get now.configs number) has
    where
      by : (config : Option Config) → has_board (boards_by config) place ≡ true → is_some config ≡ true
      by None has = has
      by (Some config) has = refl

-- ---- its configuration

get_front : {X : Type 0} (front back : List X) (position : ℕ) → is_some (slice_get front position) ≡ true
    → slice_get (front ++ back) position ≡ slice_get front position
get_front [] back position there = absurd (cc)
get_front (first ∷ front) back zero there = refl
get_front (first ∷ front) back (suc position) there = get_front front back position there

pub config_stays : (now : Standing) (step : Step) (number : ℕ) (place : Option Place) → has_board (boards now number) place ≡ true
    → slice_get (after_step now step).configs number ≡ slice_get now.configs number
config_stays now (Start options) number place has = refl
config_stays now (Configure config) number place has = get_front now.configs (config ∷ []) number (board_has_config now number place has)
config_stays now (Plug at bytes) number place has = refl
config_stays now (RefusedPlug at bytes refusal) number place has = refl
config_stays now (Unplug at) number place has = refl
config_stays now (Read name raw) number place has = refl
config_stays now (Lose name) number place has = refl
config_stays now Tick number place has = refl

-- ---- its record

find_put : (place : Place) (fru : Fru) (frus : List Fru) → is_at place fru ≡ false → find (is_at place) (put fru frus) ≡ find (is_at place) frus
find_put place fru [] apart = ap (λ (here : Bool). cond here (Some fru) None) apart
find_put place fru (other ∷ frus) apart = by (is_lt (place_cmp fru.place other.place)) (find_put place fru frus apart)
  where
    by : (first : Bool) → find (is_at place) (put fru frus) ≡ find (is_at place) frus
        → find (is_at place) (cond first (fru ∷ other ∷ frus) (other ∷ put fru frus)) ≡ find (is_at place) (other ∷ frus)
    by true rest = ap (λ (here : Bool). cond here (Some fru) (find (is_at place) (other ∷ frus))) apart
    by false rest = ap (cond (is_at place other) (Some other)) rest

-- a FRU that is at two places shows that they are one
one_place : (place other : Place) (fru : Fru) → is_at place fru ≡ true → is_at other fru ≡ true → place ≡ other
one_place place other fru at at_other =
    place_same place fru.place (sym (place_cmp_eq place fru.place) ∙ at)
    ∙ sym (place_same other fru.place (sym (place_cmp_eq other fru.place) ∙ at_other))

find_without : (place other : Place) (frus : List Fru) → (place ≡ other → ⊥) → find (is_at place) (without other frus) ≡ find (is_at place) frus
find_without place other [] apart = refl
find_without place other (fru ∷ frus) apart = by (is_at other fru) refl (find_without place other frus apart)
  where
    not_here : is_at other fru ≡ true → is_at place fru ≡ false
    not_here at_other = false_from_ne_true _ (λ at. apart (one_place place other fru at at_other))

    by : (gone : Bool) → is_at other fru ≡ gone → find (is_at place) (without other frus) ≡ find (is_at place) frus
        → find (is_at place) (cond (not gone) (fru ∷ without other frus) (without other frus)) ≡ find (is_at place) (fru ∷ frus)
    by true is rest = rest ∙ sym (ap (λ (here : Bool). cond here (Some fru) (find (is_at place) frus)) (not_here is))
    by false is rest = ap (cond (is_at place fru) (Some fru)) rest

none_left : (place : Place) (frus : List Fru) → is_present (without place frus) place ≡ false
none_left place [] = refl
none_left place (fru ∷ frus) = by (is_at place fru) refl (none_left place frus)
  where
    by : (gone : Bool) → is_at place fru ≡ gone → is_present (without place frus) place ≡ false
        → is_present (cond (not gone) (fru ∷ without place frus) (without place frus)) place ≡ false
    by true is rest = rest
    by false is rest = ap₂ (λ (here later : Bool). here || later) is rest

-- a plug needs a free place, where no board is; where a FRU is taken away no board is then
pub fields_stay : (past : List Step) (step : Step) (number : ℕ) (place : Option Place) → IsLegalStep past step
    → has_board (boards (standing past) number) place ≡ true → has_board (boards (after_step (standing past) step) number) place ≡ true
    → option_and_then (fields_at (after_step (standing past) step).frus) place ≡ option_and_then (fields_at (standing past).frus) place
fields_stay past step number None legal has has_then = refl
fields_stay past (Start options) number (Some place) legal has has_then = refl
fields_stay past (Configure config) number (Some place) legal has has_then = refl
fields_stay past (Plug at bytes) number (Some place) legal has has_then =
    ap (option_map fields_of) (find_put place (record { place = at; bytes = bytes }) (standing past).frus (false_from_ne_true _ (λ here.
    both_ways _ (free_place past at bytes legal)
    (ap (is_present (standing past).frus) (sym (place_same place at (sym (place_cmp_eq place at) ∙ here)))
    ∙ board_is_present (standing past) number place has))))
fields_stay past (RefusedPlug at bytes refusal) number (Some place) legal has has_then = refl
fields_stay past (Read name raw) number (Some place) legal has has_then = refl
fields_stay past (Lose name) number (Some place) legal has has_then = refl
fields_stay past Tick number (Some place) legal has has_then = refl
fields_stay past (Unplug at) number (Some place) legal has has_then =
    ap (option_map fields_of) (find_without place at (standing past).frus (λ same.
    both_ways _ (none_left at (standing past).frus)
    (ap (is_present (without at (standing past).frus)) (sym same)
    ∙ board_is_present (after_step (standing past) (Unplug at)) number place has_then)))
