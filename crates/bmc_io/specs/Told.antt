-- What a sink tells of the bytes that it took.
use Rattle.std.specs.Prelude.{ℕ, ◌+◌, ◌-◌, ◌≡◌, nat_le, if◌then◌else◌, List, ◌++◌, length}
use Rattle.bmc_base.specs.Counts.{last_count}

-- nothing, how many bytes it took, or which
pub data Told : Type 0 where
  Nothing : Told
  Count : ℕ → Told
  Bytes : List ℕ → Told

-- the count after so many more, or nothing where it would pass its last value
abbrev pub counted : ℕ → ℕ → Told
counted count more = if nat_le more (last_count - count) then Count (count + more) else Nothing

-- what is told after these bytes too
abbrev pub added : Told → List ℕ → Told
added Nothing bytes = Nothing
added (Count count) bytes = counted count (length bytes)
added (Bytes old) bytes = Bytes (old ++ bytes)

-- a sink that counts from 0 tells the length of the text that it took
abbrev pub TellsLength : Type 0
TellsLength = (text : List ℕ) (n : ℕ) → added (Count 0) text ≡ Count n → n ≡ length text
