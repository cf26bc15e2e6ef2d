-- The fields of an information area by their positions (FRU definition 1.0, section 13). The area's last byte is its
-- checksum.
use Rattle.std.specs.Prelude.{ℕ, ◌+◌, ◌-◌, ◌<◌, ◌≤◌, ◌≡◌, ◌≢◌, List, length, slice_index}
use Rattle.fru_area.specs.Walks.{end_mark, len_of}

-- where the checksum of a whole area stands
abbrev pub checksum_at : List ℕ → ℕ
checksum_at bytes = length bytes - 1

-- a field's type/length byte stands at this position, and neither the end mark nor the checksum
pub record IsFieldAt (bytes : List ℕ) (at : ℕ) : Type 0 where
  pub inside : at < checksum_at bytes
  pub not_mark : slice_index bytes at ≢ end_mark

-- the position behind a field
abbrev pub field_end : List ℕ → ℕ → ℕ
field_end bytes at = at + 1 + len_of (slice_index bytes at)

-- The positions that fields lead to: that of the first field, and the one behind each field that does not take in the
-- checksum.
pub data Reaches : (bytes : List ℕ) (start : ℕ) → ℕ → Type 0 where
  first : (bytes : List ℕ) (start : ℕ) → Reaches bytes start start
  next :
      (bytes : List ℕ) (start at : ℕ) → Reaches bytes start at → IsFieldAt bytes at → field_end bytes at ≤ checksum_at bytes →
      Reaches bytes start (field_end bytes at)

-- a field takes in the checksum
pub record HasFieldOutside (bytes : List ℕ) (start : ℕ) : Type 0 where
  pub at : ℕ
  pub reached : Reaches bytes start at
  pub field : IsFieldAt bytes at
  pub outside : checksum_at bytes < field_end bytes at

-- the checksum stands where a field could begin
abbrev pub LacksEnd : List ℕ → ℕ → Type 0
LacksEnd bytes start = Reaches bytes start (checksum_at bytes)

-- the end mark stands where a field could begin
pub record HasEnd (bytes : List ℕ) (start : ℕ) : Type 0 where
  pub at : ℕ
  pub reached : Reaches bytes start at
  pub inside : at < checksum_at bytes
  pub mark : slice_index bytes at ≡ end_mark
