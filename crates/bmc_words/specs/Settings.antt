-- What the words of the command line ask for, and which words are refused.
use Rattle.std.specs.Prelude.{ℕ, ◌&&◌, ◌||◌, Bool, false, not, List, [], map, Option, is_some, unwrap_or, codes}
use Rattle.std.specs.Option.{option_map_or}
use Rattle.std.specs.Str.{bytes_eq}
use Rattle.clap.specs.Walk.{is_empty}
use Rattle.clap.specs.Words.{Row, Text, all_of, fault_of, matches_of, one_of}
use Rattle.bmc_words.specs.Arguments.{bmcreplay}
use Rattle.bmc_words.specs.Numbers.{number_of}
use Rattle.bmc_words.specs.declared.settings.Settings.{Settings}

-- settings, as they are seen
pub record SettingsView : Type 0 where
  pub strict : Bool
  pub log_cap : ℕ
  pub sample : Option ℕ
  pub configs : List Text

abbrev pub view_of : Settings → SettingsView
view_of settings = record {
  strict = settings.strict;
  log_cap = settings.log_cap;
  sample = settings.sample;
  configs = map (λ name. name.now) settings.configs.items;
}

-- whether the flag was given
abbrev pub is_strict : List Row → Bool
is_strict rows = option_map_or (λ text. bytes_eq text (codes "true")) (one_of (codes "strict") rows) false

-- the names of the configurations
abbrev pub configs_of : List Row → List Text
configs_of rows = unwrap_or (all_of (codes "config") rows) []

-- the cap of the log where the words give none
abbrev pub default_log_cap : ℕ
default_log_cap = 200

-- what clap's matches ask for
abbrev pub settings_in : List Row → SettingsView
settings_in rows = record {
  strict = is_strict rows;
  log_cap = unwrap_or (number_of (codes "log_cap") rows) default_log_cap;
  sample = number_of (codes "sample") rows;
  configs = configs_of rows;
}

-- what words ask for, where they are not refused
abbrev pub settings_of : List Text → SettingsView
settings_of words = settings_in (matches_of bmcreplay words)

-- whether a sample stands with a configuration
abbrev pub has_sample_and_config : SettingsView → Bool
has_sample_and_config settings = is_some settings.sample && not (is_empty settings.configs)

-- whether words are refused: clap finds a fault in them, or a sample stands with a configuration
abbrev pub are_refused : List Text → Bool
are_refused words = not (is_empty (fault_of bmcreplay words)) || has_sample_and_config (settings_of words)

-- the usage line
abbrev pub usage : Text
usage = codes "usage: bmcreplay [--strict] [--log-cap N] [--sample N] [CONFIG]..\n"
