-- Parts of records, and the bytes that are built of them.
use Rattle.std.specs.Prelude.{ℕ, List, [], ◌∷◌, ◌++◌, codes, replicate, Option, Some, None}
use Rattle.fru_record.specs.declared.parts.Parts.{Parts}
use Rattle.fru_record.specs.declared.parts.BoardPart.{BoardPart}

-- all three areas
abbrev pub whole_parts : Parts
whole_parts = record {
  chassis = Some (record { chassis_type = 23; named = codes "P1" ∷ codes "S2" ∷ []; custom = codes "X1" ∷ [] });
  board = Some (record { minutes = 65537; named = codes "ACM" ∷ codes "RSR1" ∷ codes "S1" ∷ [] ∷ [] ∷ []; custom = codes "Z" ∷ [] });
  product = Some (record { named = (0x6E ∷ 0xC3 ∷ 0xA9 ∷ []) ∷ [] ∷ [] ∷ [] ∷ [] ∷ codes "A" ∷ codes " " ∷ []; custom = [] });
}

abbrev pub board_alone : BoardPart → Parts
board_alone part = record { chassis = None; board = Some part; product = None }

-- a board alone of these minutes, without texts
abbrev pub board_of_minutes : ℕ → Parts
board_of_minutes minutes = board_alone (record { minutes = minutes; named = [] ∷ [] ∷ [] ∷ [] ∷ [] ∷ []; custom = [] })

-- its record: the minutes, the low byte first, and two checksums
abbrev pub last_minute_bytes : List ℕ
last_minute_bytes =
    0x01 ∷ 0x00 ∷ 0x00 ∷ 0x01 ∷ 0x00 ∷ 0x00 ∷ 0x00 ∷ 0xFE
    ∷ 0x01 ∷ 0x02 ∷ 0x00 ∷ 0xFF ∷ 0xFF ∷ 0xFF ∷ 0xC0 ∷ 0xC0
    ∷ 0xC0 ∷ 0xC0 ∷ 0xC0 ∷ 0xC1 ∷ 0x00 ∷ 0x00 ∷ 0x00 ∷ 0x7F ∷ []

-- a board alone of this manufacturer
abbrev pub board_made_by : List ℕ → Parts
board_made_by text = board_alone (record { minutes = 0; named = text ∷ [] ∷ [] ∷ [] ∷ [] ∷ []; custom = [] })

-- U+00FF and U+0100, two of each, in UTF-8
abbrev pub last_of_latin : List ℕ
last_of_latin = 0xC3 ∷ 0xBF ∷ 0xC3 ∷ 0xBF ∷ []

abbrev pub first_past_latin : List ℕ
first_past_latin = 0xC4 ∷ 0x80 ∷ 0xC4 ∷ 0x80 ∷ []

-- the record of a board that is made by U+00FF, twice
abbrev pub latin_bytes : List ℕ
latin_bytes =
    0x01 ∷ 0x00 ∷ 0x00 ∷ 0x01 ∷ 0x00 ∷ 0x00 ∷ 0x00 ∷ 0xFE
    ∷ 0x01 ∷ 0x02 ∷ 0x00 ∷ 0x00 ∷ 0x00 ∷ 0x00 ∷ 0xC2 ∷ 0xFF
    ∷ 0xFF ∷ 0xC0 ∷ 0xC0 ∷ 0xC0 ∷ 0xC0 ∷ 0xC1 ∷ 0x00 ∷ 0x7C ∷ []

-- the records of a board that is made by a space, and by a low line
abbrev pub space_bytes : List ℕ
space_bytes =
    0x01 ∷ 0x00 ∷ 0x00 ∷ 0x01 ∷ 0x00 ∷ 0x00 ∷ 0x00 ∷ 0xFE
    ∷ 0x01 ∷ 0x02 ∷ 0x00 ∷ 0x00 ∷ 0x00 ∷ 0x00 ∷ 0x81 ∷ 0x00
    ∷ 0xC0 ∷ 0xC0 ∷ 0xC0 ∷ 0xC0 ∷ 0xC1 ∷ 0x00 ∷ 0x00 ∷ 0xBB ∷ []

abbrev pub low_line_bytes : List ℕ
low_line_bytes =
    0x01 ∷ 0x00 ∷ 0x00 ∷ 0x01 ∷ 0x00 ∷ 0x00 ∷ 0x00 ∷ 0xFE
    ∷ 0x01 ∷ 0x02 ∷ 0x00 ∷ 0x00 ∷ 0x00 ∷ 0x00 ∷ 0x81 ∷ 0x3F
    ∷ 0xC0 ∷ 0xC0 ∷ 0xC0 ∷ 0xC0 ∷ 0xC1 ∷ 0x00 ∷ 0x00 ∷ 0x7C ∷ []

-- the letter x, so many times
abbrev pub letters : ℕ → List ℕ
letters count = replicate count 0x78

-- the record of a board that is made by 63 letters
abbrev pub longest_bytes : List ℕ
longest_bytes =
    0x01 ∷ 0x00 ∷ 0x00 ∷ 0x01 ∷ 0x00 ∷ 0x00 ∷ 0x00 ∷ 0xFE
    ∷ 0x01 ∷ 0x0A ∷ 0x00 ∷ 0x00 ∷ 0x00 ∷ 0x00 ∷ 0xFF
    ∷ (letters 63 ++ 0xC0 ∷ 0xC0 ∷ 0xC0 ∷ 0xC0 ∷ 0xC1 ∷ 0x00 ∷ 0x00 ∷ 0x00 ∷ 0x00 ∷ 0xAD ∷ [])

-- A board of late minutes whose texts are a single character out of 6-bit ASCII, one above 63 characters, one that is not
-- Latin 1, and more than an area holds.
abbrev pub all_rules_broken : Parts
all_rules_broken = board_alone (record {
  minutes = 16777216;
  named = codes "`" ∷ letters 64 ∷ first_past_latin ∷ [] ∷ [] ∷ [];
  custom = replicate 80 (letters 63);
})

-- the same with fewer rules broken, one after another
abbrev pub early_minutes : Parts
early_minutes = board_alone (record {
  minutes = 0;
  named = codes "`" ∷ letters 64 ∷ first_past_latin ∷ [] ∷ [] ∷ [];
  custom = replicate 80 (letters 63);
})

abbrev pub early_latin : Parts
early_latin = board_alone (record { minutes = 0; named = codes "`" ∷ letters 64 ∷ [] ∷ [] ∷ [] ∷ []; custom = replicate 80 (letters 63) })

abbrev pub early_latin_short : Parts
early_latin_short = board_alone (record { minutes = 0; named = codes "`" ∷ [] ∷ [] ∷ [] ∷ [] ∷ []; custom = replicate 80 (letters 63) })

abbrev pub only_too_many : Parts
only_too_many = board_alone (record { minutes = 0; named = [] ∷ [] ∷ [] ∷ [] ∷ [] ∷ []; custom = replicate 80 (letters 63) })

-- a chassis area of 1,990 bytes and this many characters more, and a board area behind it or none
abbrev pub long_chassis : ℕ → Option BoardPart → Parts
long_chassis count board = record {
  chassis = Some (record { chassis_type = 1; named = letters 63 ∷ letters 63 ∷ []; custom = replicate 29 (letters 63) ++ letters count ∷ [] });
  board = board;
  product = None;
}

abbrev pub bare_board : Option BoardPart
bare_board = Some (record { minutes = 0; named = [] ∷ [] ∷ [] ∷ [] ∷ [] ∷ []; custom = [] })
