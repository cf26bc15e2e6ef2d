-- What holds of all words.
use Rattle.std.specs.Prelude.{◌≡◌, ◌==◌, ℕ, Bool, false, if◌then◌else◌, List, [], ◌∷◌, ◌++◌, Option, codes}
use Rattle.std.specs.List.{list_any}
use Rattle.clap.specs.ValueTests.{is_unsigned_in}
use Rattle.clap.specs.Words.{Text}
use Rattle.bmc_words.specs.Examples.{asked_by, refused, with_configs}
use Rattle.bmc_words.specs.Numbers.{number}
use Rattle.bmc_words.specs.Settings.{SettingsView}

-- whether a word begins with a hyphen
abbrev pub begins_with_hyphen : Text → Bool
begins_with_hyphen [] = false
begins_with_hyphen (first ∷ rest) = first == 45

-- words of which none begins with a hyphen are names
abbrev pub WordsAreNames : Type 0
WordsAreNames = (words : List Text) → list_any begins_with_hyphen words ≡ false → asked_by words ≡ with_configs words

-- behind `--` any words are names
abbrev pub WordsBehindHyphensAreNames : Type 0
WordsBehindHyphensAreNames = (words : List Text) → asked_by (codes "--" ∷ words) ≡ with_configs words

-- any text behind this option asks for its number, where it is a whole number within these bounds, and else is refused
abbrev pub ReadsNumbers : Text → ℕ → ℕ → (ℕ → Option SettingsView) → Type 0
ReadsNumbers option low high with_number =
    (text : Text) → asked_by ((option ++ text) ∷ []) ≡ (if is_unsigned_in low high text then with_number (number text) else refused)
