-- Look-ups by name over the map's entries and over the configurations.
use Rattle.std.proofs.Common.{◌≡◌, ℕ, ◌+◌, ◌<◌, ◌≤◌, arith, length, List, [], ◌∷◌, ◌++◌, map, refl, sym, ◌∙◌, ap, subst, true, false, cond, Some, None}
use Rattle.std.specs.Prelude.{bytes_eq, position, if◌then◌else◌}
use Rattle.std.specs.List.{All, position_from}
use Rattle.std.proofs.lemmas.List.{map-append, length-map, length-append}
use Rattle.std.proofs.lemmas.List.Elements.{All-push}
use Rattle.std.proofs.lemmas.Iterator.Adapters.{position_from-zero}
use Rattle.indexmap.specs.IndexMap.{insert_entry}
use Rattle.cfg_json.specs.Configs.{Config, IsValidConfig}
use Rattle.cfg_json.specs.Shelves.{AreNamed, configs_of, number_of, has_name, most_configs}

abbrev Entries : Type 0
Entries = List (List ℕ × Config)

abbrev names_of : Entries → List (List ℕ)
names_of entries = map (λ entry. entry.0) entries

position_of_name : (name : List ℕ) (configs : List Config) (from : ℕ)
    → position_from (bytes_eq name) from (map (λ config. config.name) configs) ≡ position_from (has_name name) from configs
position_of_name name [] from = refl
position_of_name name (config ∷ configs) from = ap (λ later. cond (bytes_eq name config.name) (Some from) later) (position_of_name name configs (from + 1))

names_of_configs : (entries : Entries) → map (λ config. config.name) (configs_of entries) ≡ map (λ entry. entry.1.name) entries
names_of_configs [] = refl
names_of_configs (entry ∷ entries) = ap (λ names. entry.1.name ∷ names) (names_of_configs entries)

position_in : (name : List ℕ) (entries : Entries) → AreNamed entries → position_from (bytes_eq name) 0 (names_of entries) ≡ number_of (configs_of entries) name
position_in name entries named =
    ap (position_from (bytes_eq name) 0) (named ∙ sym (names_of_configs entries)) ∙ position_of_name name (configs_of entries) 0
    ∙ sym (position_from-zero (has_name name) (configs_of entries))

-- where a name stands among the keys is the number of its configuration
pub number_of_key : (name : List ℕ) (entries : Entries) → AreNamed entries
    → position (bytes_eq name) (map (λ entry. entry.0) entries) ≡ number_of (configs_of entries) name
number_of_key name entries named = position_from-zero (bytes_eq name) (names_of entries) ∙ position_in name entries named

new_goes_last : (name : List ℕ) (config : Config) (entries : Entries) (from : ℕ)
    → position_from (bytes_eq name) from (names_of entries) ≡ None → insert_entry bytes_eq entries name config ≡ entries ++ (name, config) ∷ []
new_goes_last name config [] from none = refl
new_goes_last name config (entry ∷ entries) from none =
    elim (bytes_eq name entry.0) as (λ same. cond same (Some from) (position_from (bytes_eq name) (from + 1) (names_of entries)) ≡ None
    → (if same then (entry.0, config) ∷ entries else entry ∷ insert_entry bytes_eq entries name config) ≡ entry ∷ (entries ++ (name, config) ∷ []))
    [ true ↦ λ found. absurd (cc) | false ↦ λ later. ap (λ rest. entry ∷ rest) (new_goes_last name config entries (from + 1) later) ] none

-- a configuration with a new name goes last in the map
pub entries_with : (config : Config) (entries : Entries) → AreNamed entries → number_of (configs_of entries) config.name ≡ None
    → insert_entry bytes_eq entries config.name config ≡ entries ++ (config.name, config) ∷ []
entries_with config entries named none = new_goes_last config.name config entries 0 (position_in config.name entries named ∙ none)

pub configs_of_more : (config : Config) (entries : Entries) → configs_of (entries ++ (config.name, config) ∷ []) ≡ configs_of entries ++ config ∷ []
configs_of_more config entries = map-append (λ entry. entry.1) entries ((config.name, config) ∷ [])

pub AreNamed_more : (config : Config) (entries : Entries) → AreNamed entries → AreNamed (entries ++ (config.name, config) ∷ [])
AreNamed_more config entries named = rw (map-append, map-append, named) refl

pub few_more : (config : Config) (entries : Entries) → length (configs_of entries) < most_configs
    → length (entries ++ (config.name, config) ∷ []) ≤ most_configs
few_more config entries few =
    omega (arith, few, length-map entries (λ (entry : List ℕ × Config). entry.1), length-append entries ((config.name, config) ∷ []))

pub valid_more : (config : Config) (entries : Entries) → All IsValidConfig (configs_of entries) → IsValidConfig config
    → All IsValidConfig (configs_of (entries ++ (config.name, config) ∷ []))
valid_more config entries all valid =
    subst (All IsValidConfig) (sym (configs_of_more config entries)) (All-push IsValidConfig (configs_of entries) config all valid)
