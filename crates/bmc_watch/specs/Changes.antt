-- The changes of boards, before and after they are taken over.
use Rattle.std.specs.Prelude.{ℕ, ◌≡◌, ◌+◌, ◌≤◌, ◌<◌, ◌++◌, true, false, List, map, length, Option, IsSomeAnd}
use Rattle.std.specs.List.{All}
use Rattle.bmc_base.specs.Places.{Place}
use Rattle.cfg_json.specs.Configs.{Config}
use Rattle.inventory.specs.Indexes.{kept_of, with_boards}
use Rattle.inventory.specs.Differences.{keys_left, places_of}
use Rattle.inventory.specs.declared.board.BoardKey.{BoardKey}
use Rattle.bmc_report.specs.declared.change.Change.{Change}
use Rattle.bmc_machine.specs.Changes.{board_change}

-- what changes from these boards of as many configurations to those
pub record IsDifference (count count_after : ℕ) (boards boards_after : ℕ → List (Option Place)) (gone new : List BoardKey) : Type 0 where
  pub those_gone : gone ≡ keys_left count boards boards_after
  pub those_new : new ≡ keys_left count_after boards_after boards

-- there is room for their changes
abbrev pub HasRoomFor : List BoardKey → Option (List BoardKey) → ℕ → Type 0
HasRoomFor gone staged room = IsSomeAnd staged (λ new. length gone + length new ≤ room)

-- each key has a configuration among so many
abbrev pub AreWithin : List BoardKey → ℕ → Type 0
AreWithin keys count = All (λ (key : BoardKey). key.config < count) keys

-- the staged boards are kept, and these are the changes
pub record Tells (configs : List Config) (gone new : List BoardKey) (kept kept_now : List (List (Option Place))) (changes : List Change) : Type 0 where
  pub all_kept : (number : ℕ) → kept_of kept_now number ≡ with_boards (kept_of kept number) (places_of number new)
  pub told : changes ≡ map (board_change true configs (kept_of kept)) gone
      ++ map (board_change false configs (kept_of kept_now)) new
