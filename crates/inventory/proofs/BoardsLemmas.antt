-- The boards of a configuration ascend by place.
use Rattle.std.proofs.Common.{◌≡◌, ℕ, List, [], ◌∷◌, Bool, true, false, cond, Option, Some, None, map, refl, subst, option_map, slice_get}
use Rattle.std.specs.Option.{option_eq, option_cmp, unwrap_or}
use Rattle.std.specs.Ordering.{is_eq}
use Rattle.std.specs.List.{IsDistinct}
use Rattle.std.specs.List.Sorted.{IsStrictlySortedBy}
use Rattle.std.proofs.lemmas.Map.Keys.{IsDistinct-from_sorted}
use Rattle.bmc_base.specs.Places.{Place, place_cmp, place_eq}
use Rattle.probe_lang.specs.Sights.{Sight}
use Rattle.cfg_json.specs.Configs.{Config}
use Rattle.found_set.specs.Found.{on_buses}
use Rattle.inventory.specs.Boards.{places_or_none, hit_places, config_places, board_places}
use Rattle.inventory.specs.Laws.{BoardsAscend}
use Rattle.inventory.proofs.BoardLemmas.{place_cmp_eq}
use Rattle.inventory.proofs.ListLemmas.{ascending_map, ascending_filter}

pub board_cmp_eq : (place other : Option Place) → is_eq (option_cmp place_cmp place other) ≡ option_eq place_eq place other
board_cmp_eq None None = refl
board_cmp_eq None (Some other) = refl
board_cmp_eq (Some place) None = refl
board_cmp_eq (Some place) (Some other) = place_cmp_eq place other

-- where boards ascend, they differ
pub ascending_differ : (boards : List (Option Place)) → IsStrictlySortedBy (option_cmp place_cmp) boards → IsDistinct (option_eq place_eq) boards
ascending_differ boards ascend =
    subst (λ (same : Option Place → Option Place → Bool). IsDistinct same boards) (λ i place other. board_cmp_eq place other i)
    (IsDistinct-from_sorted (option_cmp place_cmp) boards ascend)

pub hits_ascend : (reach : ℕ → Bool) (sights : List Sight) (number : ℕ) → IsStrictlySortedBy place_cmp (map (λ (sight : Sight). sight.place) sights)
    → IsStrictlySortedBy place_cmp (hit_places reach sights number)
hits_ascend reach sights number ascend =
    ascending_filter (λ (sight : Sight). sight.place) place_cmp (λ (sight : Sight). sight.hit number) (on_buses reach sights)
    (ascending_filter (λ (sight : Sight). sight.place) place_cmp (λ (sight : Sight). reach sight.place.bus) sights ascend)

pub places_ascend : (match_one : Bool) (places : List Place) → IsStrictlySortedBy place_cmp places
    → IsStrictlySortedBy (option_cmp place_cmp) (places_or_none match_one places)
unfolding IsStrictlySortedBy
places_ascend true [] ascend = (tt, tt)
places_ascend false [] ascend = (tt, tt)
places_ascend true (place ∷ places) ascend = (tt, tt)
places_ascend false (place ∷ places) ascend = ascending_map place_cmp (option_cmp place_cmp) Some (λ one other less. less) (place ∷ places) ascend

-- the boards of a configuration ascend where the FRUs that are seen do
pub config_places_ascend : (found reach : ℕ → Bool) (sights : List Sight) (number : ℕ) (config : Config)
    → IsStrictlySortedBy place_cmp (map (λ (sight : Sight). sight.place) sights)
    → IsStrictlySortedBy (option_cmp place_cmp) (config_places found reach sights number config)
unfolding IsStrictlySortedBy
config_places_ascend found reach sights number config ascend = by (found number)
  where
    by : (is_found : Bool)
        → IsStrictlySortedBy (option_cmp place_cmp) (cond is_found (places_or_none config.probe.match_one (hit_places reach sights number)) [])
    by true = places_ascend config.probe.match_one (hit_places reach sights number) (hits_ascend reach sights number ascend)
    by false = tt

pub board_places_ascend : (configs : List Config) (found reach : ℕ → Bool) (sights : List Sight) (number : ℕ)
    → IsStrictlySortedBy place_cmp (map (λ (sight : Sight). sight.place) sights)
    → IsStrictlySortedBy (option_cmp place_cmp) (board_places configs found reach sights number)
unfolding board_places IsStrictlySortedBy
board_places_ascend configs found reach sights number ascend = by (slice_get configs number)
  where
    by : (config : Option Config) → IsStrictlySortedBy (option_cmp place_cmp) (unwrap_or (option_map (config_places found reach sights number) config) [])
    by None = tt
    by (Some config) = config_places_ascend found reach sights number config ascend

-- ---- law

pub boards_ascend : BoardsAscend
boards_ascend configs found reach sights number ascend = board_places_ascend configs found reach sights number ascend
