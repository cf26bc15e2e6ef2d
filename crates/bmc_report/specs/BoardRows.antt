-- The rows of the inventory and of the indexes.
use Rattle.std.specs.Prelude.{ℕ, Bool, true, false, List, [], ◌++◌, codes, decimal, Option, Some, None}
use Rattle.bmc_base.specs.Places.{Place}
use Rattle.bmc_report.specs.Boards.{board_text}
use Rattle.bmc_report.specs.Quoted.{quoted}

-- the row of a board
abbrev pub board_row : List ℕ → ℕ → Option Place → List ℕ
board_row name index place = codes "board " ++ board_text name index place ++ codes "\n"

-- the row of an index that a board has or had
abbrev pub index_row : List ℕ → ℕ → Option Place → List ℕ
index_row name index place = codes "index " ++ board_text name index place ++ codes "\n"

-- a number behind its word, if there is one
abbrev pub number_text : List ℕ → Option ℕ → List ℕ
number_text word None = []
number_text word (Some number) = codes " " ++ word ++ codes " " ++ decimal number

-- whether an item is live
abbrev pub live_text : Bool → List ℕ
live_text true = codes " live"
live_text false = []

-- the row of an item: its type, its name, the bus and the address that it has, and whether it is live
unfoldable pub item_row : List ℕ → List ℕ → Option ℕ → Option ℕ → Bool → List ℕ
item_row kind name bus address live =
    codes "  " ++ quoted kind ++ codes " " ++ quoted name ++ number_text (codes "bus") bus
    ++ number_text (codes "address") address ++ live_text live ++ codes "\n"
