-- Configurations in order, by their names.
use Rattle.std.specs.Prelude.{ℕ, ◌≡◌, Bool, List, Option, position, bytes_eq, map}
use Rattle.cfg_json.specs.Configs.{Config}

-- how many configurations there may be
abbrev pub most_configs : ℕ
most_configs = 256

abbrev pub has_name : List ℕ → Config → Bool
has_name name config = bytes_eq name config.name

-- the number of the configuration of this name, from 0
abbrev pub number_of : List Config → List ℕ → Option ℕ
number_of configs name = position (has_name name) configs

-- the configurations of a map from names
abbrev pub configs_of : List (List ℕ × Config) → List Config
configs_of entries = map (λ entry. entry.1) entries

-- each configuration stands under its name
abbrev pub AreNamed : List (List ℕ × Config) → Type 0
AreNamed entries = map (λ entry. entry.0) entries ≡ map (λ entry. entry.1.name) entries
