-- The index of a board: its number among all boards that its configuration ever had, from 1.
use Rattle.std.specs.Prelude.{ℕ, ◌+◌, Bool, not, if◌then◌else◌, List, [], ◌∷◌, ◌++◌, filter, Option, Some, None}
use Rattle.std.specs.Option.{option_eq}
use Rattle.std.specs.List.{position_or_len, slice_index_or}
use Rattle.bmc_base.specs.Places.{Place, place_eq}
use Rattle.inventory.specs.Boards.{has_board}

-- these boards, without those that pass the test
abbrev pub except : (Option Place → Bool) → List (Option Place) → List (Option Place)
except test boards = filter (λ place. not (test place)) boards

-- the position of a board among these, and one more
abbrev pub index_in : List (Option Place) → Option Place → ℕ
index_in kept place = position_or_len (option_eq place_eq place) kept + 1

-- the boards that are kept of the configuration with this number
abbrev pub kept_of : List (List (Option Place)) → ℕ → List (Option Place)
kept_of lists number = slice_index_or lists number []

-- with a board behind the others, if it is not among them yet
abbrev pub with_board : List (Option Place) → Option Place → List (Option Place)
with_board kept place = if has_board kept place then kept else kept ++ place ∷ []

abbrev pub with_boards : List (Option Place) → List (Option Place) → List (Option Place)
with_boards kept [] = kept
with_boards kept (place ∷ places) = with_boards (with_board kept place) places

-- the index of a board that is kept
abbrev pub index_of : List (Option Place) → Option Place → Option ℕ
index_of kept place = if has_board kept place then Some (index_in kept place) else None
