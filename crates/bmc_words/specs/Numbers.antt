-- The numbers of options.
use Rattle.std.specs.Prelude.{ℕ, List, Option, IfSome, option_map}
use Rattle.std.specs.Str.Parse.{digits_value, without_leading_plus}
use Rattle.clap.specs.Words.{IsUnsignedIn, Row, Text, one_of}

-- the number of a text of digits, before which a plus sign may stand
abbrev pub number : Text → ℕ
number text = digits_value 10 (without_leading_plus text)

-- the number of an option, where it was given
abbrev pub number_of : Text → List Row → Option ℕ
number_of option rows = option_map number (one_of option rows)

-- the option, where it was given, has a whole number within these bounds
abbrev pub IsNumberIn : Text → ℕ → ℕ → List Row → Type 0
IsNumberIn option low high rows = IfSome (one_of option rows) (IsUnsignedIn low high)
