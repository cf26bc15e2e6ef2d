-- The common header of a FRU, and an information area as a whole (FRU definition 1.0, sections 8 and 10 to 12).
use Rattle.std.specs.Prelude.{ℕ, ◌+◌, ◌*◌, ◌%◌, ◌==◌, ◌||◌, not, nat_lt, if◌then◌else◌, List, length, take, sum, slice_index, slice_range, Result, Ok}
use Rattle.std.specs.Prelude.{Err}
use Rattle.fru_area.specs.declared.fault.Area.{Area}
use Rattle.fru_area.specs.declared.fault.FruFault.{FruFault}
use Rattle.fru_area.specs.declared.fault.FruFault.TheVariants.{FruShort, FruTooLong, HeaderVersion, HeaderChecksum, AreaOutside, AreaVersion}
use Rattle.fru_area.specs.declared.fault.FruFault.TheVariants.{AreaLength, AreaChecksum}
use Rattle.fru_area.specs.declared.header.Header.{Header}

-- the version of the format, and of each area
abbrev pub format_version : ℕ
format_version = 1

-- the bytes of a common header, and so of the shortest record
abbrev pub header_len : ℕ
header_len = 8

-- the most bytes of a record
abbrev pub longest_record : ℕ
longest_record = 4096

-- offsets and lengths of areas count multiples of so many bytes
abbrev pub unit : ℕ
unit = 8

-- the most bytes of an area: 255 units
abbrev pub longest_area : ℕ
longest_area = 2040

-- the last byte where an area can begin: 255 units from the front
abbrev pub last_start : ℕ
last_start = 2040

-- the sum of bytes, modulo 256; it is zero over a header or an area with its checksum
abbrev pub checksum : List ℕ → ℕ
checksum bytes = sum bytes % 256

-- the common header, or the first of its rules that is broken
unfoldable pub header : List ℕ → Result Header FruFault
header bytes =
    if nat_lt (length bytes) header_len then Err FruShort
    else if nat_lt longest_record (length bytes) then Err FruTooLong
    else if not (slice_index bytes 0 == format_version) then Err HeaderVersion
    else if not (checksum (take header_len bytes) == 0) then Err HeaderChecksum
    else Ok (record { chassis = slice_index bytes 2; board = slice_index bytes 3; product = slice_index bytes 4; multi = slice_index bytes 5 })

-- where the area that begins at a byte ends: its length byte counts units
abbrev pub area_end : List ℕ → ℕ → ℕ
area_end bytes start = start + unit * slice_index bytes (start + 1)

-- the area that begins at a byte, whole, or the first of the area's rules that is broken
unfoldable pub area_at : Area → List ℕ → ℕ → Result (List ℕ) FruFault
area_at area bytes start =
    if nat_lt (length bytes) (start + unit) || nat_lt (length bytes) (area_end bytes start) then Err (AreaOutside area)
    else if not (slice_index bytes start == format_version) then Err (AreaVersion area)
    else if slice_index bytes (start + 1) == 0 then Err (AreaLength area)
    else if not (checksum (slice_range bytes start (area_end bytes start)) == 0) then Err (AreaChecksum area)
    else Ok (slice_range bytes start (area_end bytes start))
