-- A reading at its last space, and the digits at the end of a text.
use Rattle.std.specs.Prelude.{ℕ, ◌+◌, ◌-◌, ◌<◌, ◌≤◌, ◌≡◌, true, false, List, length, take, drop, get_or, fold, Option, option_map, option_and_then, ℤ}
use Rattle.std.specs.List.{list_all}
use Rattle.bmc_text.specs.Words.{is_digit, with_digit, raw, raw_digits}
use Rattle.bmc_script.specs.Commands.{split_last_space}

-- what stands behind `read ` at its last space: the bytes of a name, and the raw reading behind it
abbrev pub reading_parts : List ℕ → Option (List ℕ × ℤ)
reading_parts text = option_and_then (λ parts. option_map (λ number. (parts.0, number)) (raw parts.1)) (split_last_space text)

-- behind a front that does not end in a digit, a text has 1 to 18 digits of this value
pub record EndsInDigits (text front : List ℕ) (value : ℕ) : Type 0 where
  pub whole : front ≡ take (length front) text
  pub some : length front < length text
  pub few : length text ≤ length front + raw_digits
  pub digits : list_all is_digit (drop (length front) text) ≡ true
  pub value_is : value ≡ fold with_digit 0 (drop (length front) text)
  pub other : 0 < length front → is_digit (get_or front (length front - 1) 0) ≡ false
