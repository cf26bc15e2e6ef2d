-- The boards of one moment: what the configurations find among the FRUs that are seen.
use Rattle.std.specs.Prelude.{ℕ, Bool, true, false, if◌then◌else◌, List, [], ◌∷◌, filter, map, Option, Some, None, option_map, slice_get}
use Rattle.std.specs.Option.{option_eq, unwrap_or}
use Rattle.std.specs.List.{list_any}
use Rattle.bmc_base.specs.Places.{Place, place_eq}
use Rattle.probe_lang.specs.Sights.{Sight}
use Rattle.cfg_json.specs.Configs.{Config, fixed_of}
use Rattle.found_set.specs.Found.{Rule, is_found, is_reached, on_buses}

-- one board at each of these places, or at the first of them; where there are none, one without a place
abbrev pub places_or_none : Bool → List Place → List (Option Place)
places_or_none match_one [] = None ∷ []
places_or_none true (place ∷ places) = Some place ∷ []
places_or_none false (place ∷ places) = map Some (place ∷ places)

-- the places of the FRUs on reachable buses that a pattern of a configuration matches
abbrev pub hit_places : (ℕ → Bool) → List Sight → ℕ → List Place
hit_places reach sights number = map (λ (sight : Sight). sight.place) (filter (λ (sight : Sight). sight.hit number) (on_buses reach sights))

-- the boards of a configuration with this number, where these configurations are found and these buses reachable
abbrev pub config_places : (ℕ → Bool) → (ℕ → Bool) → List Sight → ℕ → Config → List (Option Place)
config_places found reach sights number config =
    if found number then places_or_none config.probe.match_one (hit_places reach sights number) else []

-- the boards of the configuration with this number, from 0; there are none where no configuration has it
unfoldable pub board_places : List Config → (ℕ → Bool) → (ℕ → Bool) → List Sight → ℕ → List (Option Place)
board_places configs found reach sights number = unwrap_or (option_map (config_places found reach sights number) (slice_get configs number)) []

-- by what a configuration is found, and which buses it opens
abbrev pub rule_of : Config → Rule
rule_of config = record { name = config.name; probe = config.probe; fixed = fixed_of config }

abbrev pub rules_of : List Config → List Rule
rules_of configs = map rule_of configs

-- the same, where all that is found and reachable follows from what is seen
unfoldable pub boards_in : List Config → List Sight → ℕ → List (Option Place)
boards_in configs sights number =
    board_places configs (is_found (rules_of configs) sights) (is_reached (rules_of configs) sights) sights number

-- whether a board is among these
abbrev pub has_board : List (Option Place) → Option Place → Bool
has_board boards place = list_any (option_eq place_eq place) boards
