-- The fields of an information area, one after another (FRU definition 1.0, section 13): a relation of bytes and
-- fields, and a function that names the first broken rule.
use Rattle.std.specs.Prelude.{ℕ, zero, suc, ◌+◌, ◌-◌, ◌/◌, ◌%◌, ◌≡◌, ◌≢◌, ◌==◌, nat_lt, if◌then◌else◌, List, [], ◌∷◌, ◌++◌, length, take, drop}
use Rattle.std.specs.Prelude.{slice_range, Option, Some, None, Result, Ok, Err}
use Rattle.fru_area.specs.declared.fault.Area.{Area}
use Rattle.fru_area.specs.declared.fault.FruFault.{FruFault}
use Rattle.fru_area.specs.declared.fault.FruFault.TheVariants.{FieldOutside, NoEnd}

-- stands in place of a type/length byte and ends the fields
abbrev pub end_mark : ℕ
end_mark = 0xC1

-- bits 7:6 of a type/length byte: the type of the field
abbrev pub kind_of : ℕ → ℕ
kind_of head = head / 64

-- bits 5:0 of a type/length byte: the number of the field's bytes
abbrev pub len_of : ℕ → ℕ
len_of head = head % 64

-- the highest type of a field
abbrev pub last_kind : ℕ
last_kind = 3

-- the most bytes of a field
abbrev pub longest_field : ℕ
longest_field = 63

-- a field as it stands
pub record Raw : Type 0 where
  pub kind : ℕ
  pub bytes : List ℕ

-- The bytes spell these fields and then the end mark, whatever follows it.
pub data Spells : List ℕ → List Raw → Type 0 where
  ended : (rest : List ℕ) → Spells (end_mark ∷ rest) []
  field :
      (head : ℕ) (bytes rest : List ℕ) (fields : List Raw) → head ≢ end_mark → length bytes ≡ len_of head → Spells rest fields →
      Spells (head ∷ (bytes ++ rest)) (record { kind = kind_of head; bytes = bytes } ∷ fields)

-- The field at the front and the bytes behind it, or none at the end mark. The bytes are those from here to the
-- checksum.
unfoldable pub first_field : Area → List ℕ → Result (Option (Raw × List ℕ)) FruFault
first_field area [] = Err (NoEnd area)
first_field area (head ∷ bytes) =
    if head == end_mark then Ok None
    else if nat_lt (length bytes) (len_of head) then Err (FieldOutside area)
    else Ok (Some (record { kind = kind_of head; bytes = take (len_of head) bytes }, drop (len_of head) bytes))

-- a field before those that were read behind it
abbrev pub with_field : Raw → Result (List Raw) FruFault → Result (List Raw) FruFault
with_field raw (Ok fields) = Ok (raw ∷ fields)
with_field raw (Err fault) = Err fault

-- what comes of the first field, where `rest_of` reads the bytes behind it
abbrev pub field_then : (List ℕ → Result (List Raw) FruFault) → Result (Option (Raw × List ℕ)) FruFault → Result (List Raw) FruFault
field_then rest_of (Ok None) = Ok []
field_then rest_of (Ok (Some found)) = with_field found.0 (rest_of found.1)
field_then rest_of (Err fault) = Err fault

-- the fields from here to the end mark; `limit` is more than the number of bytes
unfoldable pub walk : (area : Area) (limit : ℕ) → List ℕ → Result (List Raw) FruFault
walk area zero bytes = Err (NoEnd area)
walk area (suc limit) bytes = field_then (walk area limit) (first_field area bytes)

-- the bytes of a whole area from byte `start` to its checksum, which is the last byte
abbrev pub field_bytes : List ℕ → ℕ → List ℕ
field_bytes bytes start = slice_range bytes start (length bytes - 1)

-- the fields of a whole area from byte `start`, or the first rule that is broken
unfoldable pub raw_fields : Area → List ℕ → ℕ → Result (List Raw) FruFault
raw_fields area bytes start = walk area (length bytes + 1) (field_bytes bytes start)
