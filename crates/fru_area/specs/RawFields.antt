-- A field as it is found in the bytes of an area, without where it lies in memory.
use Rattle.std.specs.Prelude.{ℕ, List, Option, Some, None}
use Rattle.fru_area.specs.Walks.{Raw}
use Rattle.fru_area.specs.declared.area.RawField.{RawField}

abbrev pub raw_view : RawField → Raw
raw_view raw = record { kind = raw.kind; bytes = raw.bytes.now }

-- a field and the bytes behind it
abbrev pub found_view : Option RawField → Option (Raw × List ℕ)
found_view None = None
found_view (Some raw) = Some (raw_view raw, raw.rest.now)
