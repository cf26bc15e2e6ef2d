-- The lines of a sample script, and at which places they leave a FRU.
use Rattle.std.specs.Prelude.{ℕ, ◌+◌, ◌*◌, ◌%◌, ◌==◌, nat_le, Bool, false, not, ◌&&◌, ◌||◌, if◌then◌else◌, List, ◌++◌, fold, codes, decimal}
use Rattle.bmc_gen.specs.declared.line.Line.{Line}
use Rattle.bmc_gen.specs.declared.line.Line.TheVariants.{Plug, Unplug, LoseT, ReadT, ReadTach, Tick}

-- the record of a board: the manufacturer ACM, the product name RSR1 and the serial number S1
abbrev pub record_hex : List ℕ
record_hex = codes "01000001000000FE010300000000C341434DC452535231C25331C0C0C10000F5"

-- a line with its newline; all places are on bus 1
unfoldable pub line_text : Line → List ℕ
line_text (Plug address) = codes "plug 1 " ++ decimal address ++ codes " " ++ record_hex ++ codes "\n"
line_text (Unplug address) = codes "unplug 1 " ++ decimal address ++ codes "\n"
line_text LoseT = codes "lose T\n"
line_text (ReadT raw) = codes "read T " ++ decimal raw ++ codes "\n"
line_text (ReadTach raw) = codes "read Tach " ++ decimal raw ++ codes "\n"
line_text Tick = codes "tick 1\n"

-- whether a FRU is at the address behind a line, by whether one was there before it
abbrev pub occupied_behind : ℕ → Bool → Line → Bool
occupied_behind address before (Plug other) = address == other || before
occupied_behind address before (Unplug other) = not (address == other) && before
occupied_behind address before LoseT = before
occupied_behind address before (ReadT raw) = before
occupied_behind address before (ReadTach raw) = before
occupied_behind address before Tick = before

-- whether these lines leave a FRU at the address; none is there at first
abbrev pub is_occupied : List Line → ℕ → Bool
is_occupied earlier address = fold (occupied_behind address) false earlier

-- a FRU goes from an address that is occupied, and appears at one that is not
abbrev pub turn_by : Bool → ℕ → Line
turn_by occupied address = if occupied then Unplug address else Plug address

-- the same by the earlier lines
abbrev pub turn : List Line → ℕ → Line
turn earlier address = turn_by (is_occupied earlier address) address

-- the line at a position, from 1, by the earlier lines and what chooses it
abbrev pub line_of : List Line → ℕ → ℕ → Line
line_of earlier position choice =
    if choice % 16 == 0 then turn earlier (80 + position % 4)
    else if choice % 16 == 1 then LoseT
    else if nat_le (choice % 16) 8 then ReadT (20000 + 1000 * (choice % 40))
    else if nat_le (choice % 16) 11 then ReadTach (1000 + 100 * (choice % 20))
    else Tick
