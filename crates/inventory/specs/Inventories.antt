-- What is listed of one moment.
use Rattle.std.specs.Prelude.{ℕ, Bool, List, length, Option}
use Rattle.bmc_base.specs.Places.{Place}
use Rattle.cfg_json.specs.Configs.{Config}
use Rattle.inventory.specs.Differences.{Moment, boards_at}
use Rattle.inventory.specs.Indexes.{kept_of, with_boards}
use Rattle.inventory.specs.Lists.{keys_of}
use Rattle.inventory.specs.declared.board.BoardKey.{BoardKey}

-- the keys of the boards at a moment, where these are found and these buses reachable
abbrev pub moment_keys : List Config → (ℕ → Bool) → (ℕ → Bool) → Moment → List BoardKey
moment_keys configs found reach moment = keys_of (length configs) (boards_at configs found reach moment)

-- the boards that are kept, with those of a moment behind them
abbrev pub kept_then : List (List (Option Place)) → List Config → (ℕ → Bool) → (ℕ → Bool) → Moment → ℕ → List (Option Place)
kept_then kept configs found reach moment number = with_boards (kept_of kept number) (boards_at configs found reach moment number)
