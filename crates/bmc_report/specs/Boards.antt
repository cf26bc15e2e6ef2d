-- Boards, as text.
use Rattle.std.specs.Prelude.{ℕ, List, [], ◌++◌, codes, decimal, Option, Some, None}
use Rattle.bmc_base.specs.Places.{Place}
use Rattle.bmc_report.specs.Places.{place_text}
use Rattle.bmc_report.specs.Quoted.{quoted}

-- the place of a board; one without a place has no text there
abbrev pub at_text : Option Place → List ℕ
at_text None = []
at_text (Some place) = codes " at " ++ place_text place

-- a board: the name of its configuration, its index, and its place
abbrev pub board_text : List ℕ → ℕ → Option Place → List ℕ
board_text name index place = quoted name ++ codes " " ++ decimal index ++ at_text place
