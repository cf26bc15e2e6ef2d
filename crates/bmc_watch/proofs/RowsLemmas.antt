-- What the found set has of the entries.
use Rattle.std.proofs.Common.{◌≡◌, ℕ, ◌+◌, ◌<◌, ◌≤◌, List, [], ◌∷◌, map, length, Bool, true, false, not, cond, if◌then◌else◌, refl, ap, arith}
use Rattle.std.specs.Prelude.{◌||◌}
use Rattle.std.specs.List.{All}
use Rattle.std.specs.Ordering.{is_lt, is_eq}
use Rattle.std.proofs.lemmas.List.{length-map}
use Rattle.std.proofs.lemmas.List.Elements.{All-nil, All-cons, All-append}
use Rattle.bmc_base.specs.Places.{Place, place_cmp}
use Rattle.fru_area.specs.declared.field.Field.{Field}
use Rattle.probe_lang.specs.Matches.{matches}
use Rattle.probe_lang.specs.Sights.{Sight, entry_sight}
use Rattle.probe_lang.specs.declared.rows.Hit.{Hit}
use Rattle.probe_lang.specs.declared.rows.Channel.{Channel}
use Rattle.probe_lang.specs.declared.rows.Entry.{Entry}
use Rattle.probe_lang.specs.declared.pattern_text.Member.{Member}
use Rattle.probe_lang.specs.Presents as presents
use Rattle.cfg_json.specs.Configs.{Config, moving_of}
use Rattle.match_rows.specs.Matching.{hit_if, pattern_hits, config_hits, entry_of}
use Rattle.match_rows.specs.Matching.{any_matches, buses_of, channel_to, own_channels, config_channels}
use Rattle.found_set.specs.Rows as rows
use Rattle.found_set.specs.Rows.{row_of, sights_of, IsKnown}
use Rattle.found_set.specs.declared.row.Row.{Row}
use Rattle.inventory.specs.Boards.{rules_of, rule_of}

pub rows_sights : (entries : List Entry) → sights_of (map row_of entries) ≡ map entry_sight entries
rows_sights [] = refl
rows_sights (entry ∷ entries) = ap (λ (later : List Sight). entry_sight entry ∷ later) (rows_sights entries)

pub rows_hold : (entries : List Entry) (place : Place) → rows.holds_place (map row_of entries) place ≡ presents.holds_place entries place
rows_hold [] place = refl
rows_hold (entry ∷ entries) place = ap (λ (later : Bool). is_eq (place_cmp place entry.place) || later) (rows_hold entries place)

pub rows_without : (place : Place) (entries : List Entry) → rows.without_row place (map row_of entries) ≡ map row_of (presents.without_entry place entries)
rows_without place [] = refl
rows_without place (entry ∷ entries) = by (is_eq (place_cmp place entry.place)) (rows_without place entries)
  where
    by : (is_here : Bool) → rows.without_row place (map row_of entries) ≡ map row_of (presents.without_entry place entries)
        → cond (not is_here) (row_of entry ∷ rows.without_row place (map row_of entries)) (rows.without_row place (map row_of entries))
        ≡ map row_of (cond (not is_here) (entry ∷ presents.without_entry place entries) (presents.without_entry place entries))
    by true rest = rest
    by false rest = ap (λ (later : List Row). row_of entry ∷ later) rest

pub rows_with : (entry : Entry) (entries : List Entry) → rows.with_row (row_of entry) (map row_of entries) ≡ map row_of (presents.with_entry entry entries)
rows_with entry [] = refl
rows_with entry (other ∷ entries) = by (is_lt (place_cmp entry.place other.place)) (rows_with entry entries)
  where
    by : (first : Bool) → rows.with_row (row_of entry) (map row_of entries) ≡ map row_of (presents.with_entry entry entries)
        → cond first (row_of entry ∷ row_of other ∷ map row_of entries) (row_of other ∷ rows.with_row (row_of entry) (map row_of entries))
        ≡ map row_of (cond first (entry ∷ other ∷ entries) (other ∷ presents.with_entry entry entries))
    by true rest = refl
    by false rest = ap (λ (later : List Row). row_of other ∷ later) rest

-- ---- the hits of an entry are of configurations that are there

abbrev AreHitsBelow : ℕ → List Hit → Type 0
AreHitsBelow count hits = All (λ (hit : Hit). hit.config < count) hits

hit_below : (count config pattern : ℕ) (is_match : Bool) → config < count → AreHitsBelow count (hit_if is_match config pattern)
hit_below count config pattern false few = All-nil _
hit_below count config pattern true few = All-cons (λ (hit : Hit). hit.config < count) (record { config = config; pattern = pattern }) [] few (All-nil _)

patterns_below : (count config pattern : ℕ) (place : Place) (fields : List Field) (patterns : List (List Member)) → config < count
    → AreHitsBelow count (pattern_hits place fields config pattern patterns)
patterns_below count config pattern place fields [] few = All-nil _
patterns_below count config pattern place fields (members ∷ patterns) few =
    All-append (λ (hit : Hit). hit.config < count) (hit_if (matches members place fields) config pattern)
    (pattern_hits place fields config (pattern + 1) patterns)
    (hit_below count config pattern (matches members place fields) few) (patterns_below count config (pattern + 1) place fields patterns few)

configs_below : (count number : ℕ) (place : Place) (fields : List Field) (configs : List Config) → number + length configs ≤ count
    → AreHitsBelow count (config_hits place fields number configs)
configs_below count number place fields [] few = All-nil _
configs_below count number place fields (config ∷ configs) few =
    All-append (λ (hit : Hit). hit.config < count) (pattern_hits place fields number 0 config.patterns) (config_hits place fields (number + 1) configs)
    (patterns_below count number 0 place fields config.patterns (omega (arith, few)))
    (configs_below count (number + 1) place fields configs (omega (arith, few)))

-- ---- and so are its channels

abbrev AreChannelsBelow : ℕ → List Channel → Type 0
AreChannelsBelow count channels = All (λ (channel : Channel). channel.config < count) channels

buses_below : (count number : ℕ) (buses : List ℕ) → number < count → AreChannelsBelow count (map (channel_to number) buses)
buses_below count number [] few = All-nil _
buses_below count number (bus ∷ buses) few =
    All-cons (λ (channel : Channel). channel.config < count) (channel_to number bus) (map (channel_to number) buses) few (buses_below count number buses few)

own_below : (count number : ℕ) (buses : List ℕ) (is_match : Bool) → number < count
    → AreChannelsBelow count (if is_match then map (channel_to number) buses else [])
own_below count number buses true few = buses_below count number buses few
own_below count number buses false few = All-nil _

channels_below : (count number : ℕ) (place : Place) (fields : List Field) (configs : List Config) → number + length configs ≤ count
    → AreChannelsBelow count (config_channels place fields number configs)
channels_below count number place fields [] few = All-nil _
channels_below count number place fields (config ∷ configs) few =
    All-append (λ (channel : Channel). channel.config < count) (own_channels place fields number config) (config_channels place fields (number + 1) configs)
    (own_below count number (buses_of place fields (moving_of config)) (any_matches place fields config) (omega (arith, few)))
    (channels_below count (number + 1) place fields configs (omega (arith, few)))

pub entry_is_known : (configs : List Config) (place : Place) (fields : List Field) → IsKnown (rules_of configs) (row_of (entry_of configs place fields))
entry_is_known configs place fields = record {
  hits = configs_below (length (rules_of configs)) 0 place fields configs (omega (arith, length-map configs rule_of));
  channels = channels_below (length (rules_of configs)) 0 place fields configs (omega (arith, length-map configs rule_of));
}
