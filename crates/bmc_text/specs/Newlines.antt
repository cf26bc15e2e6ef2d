-- Newlines in bytes.
use Rattle.std.specs.Prelude.{ℕ, ◌≡◌, ◌≢◌, ◌<◌, List, length, slice_index}

-- no byte is a newline
abbrev pub HasNoNewline : List ℕ → Type 0
HasNoNewline bytes = (k : ℕ) → k < length bytes → slice_index bytes k ≢ 10

-- the first newline stands at this place
pub record IsNewline (bytes : List ℕ) (at : ℕ) : Type 0 where
  pub within : at < length bytes
  pub found : slice_index bytes at ≡ 10
  pub first : (k : ℕ) → k < at → slice_index bytes k ≢ 10
