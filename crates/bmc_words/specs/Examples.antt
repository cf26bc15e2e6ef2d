-- What the computed examples ask for.
use Rattle.std.specs.Prelude.{ℕ, Bool, true, false, List, [], Option, Some, None, if◌then◌else◌}
use Rattle.clap.specs.Words.{Text}
use Rattle.bmc_words.specs.Settings.{SettingsView, default_log_cap, settings_of, are_refused}

-- what words ask for, where they are not refused
abbrev pub asked_by : List Text → Option SettingsView
asked_by words = if are_refused words then None else Some (settings_of words)

abbrev pub refused : Option SettingsView
refused = None

-- the flag alone, or nothing
abbrev pub with_strict : Bool → Option SettingsView
with_strict strict = Some (record { strict = strict; log_cap = default_log_cap; sample = None; configs = [] })

-- a cap alone
abbrev pub with_log_cap : ℕ → Option SettingsView
with_log_cap cap = Some (record { strict = false; log_cap = cap; sample = None; configs = [] })

-- a sample alone
abbrev pub with_sample : ℕ → Option SettingsView
with_sample seed = Some (record { strict = false; log_cap = default_log_cap; sample = Some seed; configs = [] })

-- configurations alone
abbrev pub with_configs : List Text → Option SettingsView
with_configs names = Some (record { strict = false; log_cap = default_log_cap; sample = None; configs = names })

-- the flag, a cap of 5 and the sample 7
abbrev pub with_options : Option SettingsView
with_options = Some (record { strict = true; log_cap = 5; sample = Some 7; configs = [] })
