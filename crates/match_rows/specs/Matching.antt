-- The patterns that match a FRU, and what is seen of it.
use Rattle.std.specs.Prelude.{ℕ, ◌≡◌, ◌≤◌, ◌+◌, Bool, false, ◌==◌, ◌&&◌, if◌then◌else◌, List, [], ◌∷◌, ◌++◌, length, map, filter_map, sum_by}
use Rattle.std.specs.Prelude.{Some, slice_get, option_map}
use Rattle.std.specs.Option.{unwrap_or}
use Rattle.std.specs.List.{list_any}
use Rattle.bmc_base.specs.Places.{Place, last_bus}
use Rattle.bmc_base.specs.Steps.{Counts, with_matches}
use Rattle.fru_area.specs.declared.field.Field.{Field}
use Rattle.probe_lang.specs.declared.pattern_text.Member.{Member}
use Rattle.probe_lang.specs.declared.rows.Hit.{Hit}
use Rattle.probe_lang.specs.declared.rows.Channel.{Channel}
use Rattle.probe_lang.specs.declared.rows.Entry.{Entry}
use Rattle.probe_lang.specs.Matches.{matches}
use Rattle.probe_lang.specs.Sights.{Sight}
use Rattle.tmpl.specs.Rendering.{rendered_number, fields_of}
use Rattle.tmpl.specs.declared.spot.Spot.{Spot}
use Rattle.cfg_json.specs.Configs.{Config, moving_of}

-- the hit of a pattern that matches, alone, or nothing
abbrev pub hit_if : Bool → ℕ → ℕ → List Hit
hit_if is_match config pattern = if is_match then record { config = config; pattern = pattern } ∷ [] else []

-- the hits among patterns of a configuration that are numbered from `pattern` on
abbrev pub pattern_hits : Place → List Field → ℕ → ℕ → List (List Member) → List Hit
pattern_hits place fields config pattern [] = []
pattern_hits place fields config pattern (members ∷ patterns) =
    hit_if (matches members place fields) config pattern ++ pattern_hits place fields config (pattern + 1) patterns

-- the hits among configurations that are numbered from `number` on
abbrev pub config_hits : Place → List Field → ℕ → List Config → List Hit
config_hits place fields number [] = []
config_hits place fields number (config ∷ configs) = pattern_hits place fields number 0 config.patterns ++ config_hits place fields (number + 1) configs

-- all hits
abbrev pub hits_of : List Config → Place → List Field → List Hit
hits_of configs place fields = config_hits place fields 0 configs

-- whether any pattern of a configuration matches
abbrev pub any_matches : Place → List Field → Config → Bool
any_matches place fields config = list_any (λ (members : List Member). matches members place fields) config.patterns

-- the buses that templates give for a place and its fields; what gives no bus is left out
abbrev pub buses_of : Place → List Field → List (List ℕ) → List ℕ
buses_of place fields templates = filter_map (λ template. rendered_number (Some place) (Some fields) 0 template last_bus) templates

-- and those that they give at a spot
abbrev pub buses_at : Spot → List (List ℕ) → List ℕ
buses_at spot templates = filter_map (λ template. rendered_number spot.place (fields_of spot.fru) spot.index template last_bus) templates

abbrev pub channel_to : ℕ → ℕ → Channel
channel_to config bus = record { config = config; bus = bus }

-- the channels of a configuration with this number that move with the place, where a pattern of it matches
abbrev pub own_channels : Place → List Field → ℕ → Config → List Channel
own_channels place fields number config =
    if any_matches place fields config then map (channel_to number) (buses_of place fields (moving_of config)) else []

-- those of configurations that are numbered from `number` on
abbrev pub config_channels : Place → List Field → ℕ → List Config → List Channel
config_channels place fields number [] = []
config_channels place fields number (config ∷ configs) = own_channels place fields number config ++ config_channels place fields (number + 1) configs

-- all channels that move with the place
abbrev pub channels_of : List Config → Place → List Field → List Channel
channels_of configs place fields = config_channels place fields 0 configs

-- the entry of a record
abbrev pub entry_of : List Config → Place → List Field → Entry
entry_of configs place fields =
    record { place = place; fru = fields; hits = hits_of configs place fields; channels = channels_of configs place fields }

-- how many patterns there are, in all configurations
abbrev pub pattern_count : List Config → ℕ
pattern_count configs = sum_by (λ (config : Config). length config.patterns) configs

-- at most `limit` matches more, and no evaluation
pub record IsMatchedWithin (old new : Counts) (limit : ℕ) : Type 0 where
  pub more : ℕ
  pub within : more ≤ limit
  pub counted : new ≡ with_matches old more

-- whether there is a configuration of this number and it passes a test
abbrev pub of_config : List Config → ℕ → (Config → Bool) → Bool
of_config configs number test = unwrap_or (option_map test (slice_get configs number)) false

-- whether the pattern of this number in a configuration matches
abbrev pub pattern_matches : Place → List Field → ℕ → Config → Bool
pattern_matches place fields pattern config =
    unwrap_or (option_map (λ (members : List Member). matches members place fields) (slice_get config.patterns pattern)) false

-- whether a pattern of a configuration matches, and a channel of it leads to this bus from there
abbrev pub opens_bus : Place → List Field → ℕ → Config → Bool
opens_bus place fields bus config = any_matches place fields config && list_any (λ other. other == bus) (buses_of place fields (moving_of config))

-- what is seen by a new look at a record
abbrev pub sight_of : List Config → Place → List Field → Sight
sight_of configs place fields = record {
  place = place;
  matched = λ config pattern. of_config configs config (pattern_matches place fields pattern);
  hit = λ config. of_config configs config (any_matches place fields);
  opened = λ config bus. of_config configs config (opens_bus place fields bus);
}
