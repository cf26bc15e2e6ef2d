-- Numbers behind an equals sign.
use Rattle.std.proofs.Common.{◌≡◌, ◌++◌, ℕ, Bool, true, false, cond, [], ◌∷◌, Some, None, refl, ap₂, ◌∙◌}
use Rattle.std.specs.Prelude.{codes}
use Rattle.clap.proofs.OnLiterals.{clap_on_literals}
use Rattle.clap.specs.Faults.{fault_of}
use Rattle.clap.specs.Kinds.{Kinds, or_else}
use Rattle.clap.specs.ValueTests.{is_unsigned_in}
use Rattle.clap.specs.Walk.{Text}
use Rattle.clap.specs.declared.error.kind.ErrorKind.TheVariants.{ValueValidation}
use Rattle.bmc_words.specs.Arguments.{bmcreplay}
use Rattle.bmc_words.specs.Examples.{with_log_cap, with_sample}
use Rattle.bmc_words.specs.Laws.{ReadsNumbers}
use Rattle.bmc_words.specs.Numbers.{number}
use Rattle.bmc_words.specs.Settings.{SettingsView, default_log_cap, settings_of}
use Rattle.bmc_words.proofs.NamesLemmas.{asked_from}

-- the fault of the words, by whether the value passes
abbrev fault_by : Bool → Kinds
fault_by passes = or_else (or_else (or_else (or_else (cond passes [] (ValueValidation ∷ [])) []) []) []) []

abbrev capped : ℕ → SettingsView
capped cap = record { strict = false; log_cap = cap; sample = None; configs = [] }

cap_fault : (value : Text) → fault_of bmcreplay ((codes "--log-cap=" ++ value) ∷ []) ≡ fault_by (is_unsigned_in 1 1000 value)
unfolding clap_on_literals
cap_fault value = refl

cap_settings : (value : Text) → settings_of ((codes "--log-cap=" ++ value) ∷ []) ≡ capped (number value)
unfolding clap_on_literals
cap_settings value = refl

cap_by : (passes : Bool) (cap : ℕ) → asked_from (fault_by passes) (capped cap) ≡ cond passes (with_log_cap cap) None
cap_by true cap = refl
cap_by false cap = refl

pub caps_read : ReadsNumbers (codes "--log-cap=") 1 1000 with_log_cap
caps_read value = ap₂ asked_from (cap_fault value) (cap_settings value) ∙ cap_by (is_unsigned_in 1 1000 value) (number value)

abbrev sampled : ℕ → SettingsView
sampled seed = record { strict = false; log_cap = default_log_cap; sample = Some seed; configs = [] }

sample_fault : (value : Text) → fault_of bmcreplay ((codes "--sample=" ++ value) ∷ []) ≡ fault_by (is_unsigned_in 0 2147483647 value)
unfolding clap_on_literals
sample_fault value = refl

sample_settings : (value : Text) → settings_of ((codes "--sample=" ++ value) ∷ []) ≡ sampled (number value)
unfolding clap_on_literals
sample_settings value = refl

sample_by : (passes : Bool) (seed : ℕ) → asked_from (fault_by passes) (sampled seed) ≡ cond passes (with_sample seed) None
sample_by true seed = refl
sample_by false seed = refl

pub samples_read : ReadsNumbers (codes "--sample=") 0 2147483647 with_sample
samples_read value = ap₂ asked_from (sample_fault value) (sample_settings value) ∙ sample_by (is_unsigned_in 0 2147483647 value) (number value)
