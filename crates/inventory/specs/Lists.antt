-- The boards of one moment as a list, each with its index.
use Rattle.std.specs.Prelude.{ℕ, List, map, Option}
use Rattle.std.specs.List.{flat_map, range_with_len}
use Rattle.bmc_base.specs.Places.{Place}
use Rattle.inventory.specs.Indexes.{index_in}
use Rattle.inventory.specs.Differences.{key_of}
use Rattle.inventory.specs.declared.board.BoardKey.{BoardKey}
use Rattle.inventory.specs.declared.board.Board.{Board}

-- the keys of the boards of so many configurations, by configuration and place
abbrev pub keys_of : ℕ → (ℕ → List (Option Place)) → List BoardKey
keys_of count boards = flat_map (λ number. map (key_of number) (boards number)) (range_with_len 0 count)

-- a board with the index that these give it which are kept
abbrev pub board_of : (ℕ → List (Option Place)) → BoardKey → Board
board_of kept key = record { key = key; index = index_in (kept key.config) key.place }

abbrev pub board_list : (ℕ → List (Option Place)) → List BoardKey → List Board
board_list kept keys = map (board_of kept) keys
