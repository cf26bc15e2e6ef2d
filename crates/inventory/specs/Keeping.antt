-- Lists of boards as they are kept, with the room that they have.
use Rattle.std.specs.Prelude.{ℕ, ◌≡◌, ◌<◌, ◌+◌, ◌≤◌, ⊤, List, [], map, Option, Some, None, slice_index_or, length}
use Rattle.std.specs.List.{All, AllByRecursion}
use Rattle.indexmap.specs.IndexSet.{IndexSet, spare}
use Rattle.bmc_base.specs.Places.{Place}
use Rattle.inventory.specs.declared.board.BoardKey.{BoardKey}
use Rattle.inventory.specs.Indexes.{kept_of}
use Rattle.inventory.specs.Differences.{places_of}

-- how many boards a list has at the most
abbrev pub most_boards : ℕ
most_boards = 4294967294

-- the boards of each list
abbrev pub keys_of : {S : Type 0} → List (IndexSet (Option Place) S) → List (List (Option Place))
keys_of lists = map (λ list. list.keys) lists

-- how many more boards fit into the list with this number
abbrev pub room_of : {S : Type 0} → List (IndexSet (Option Place) S) → ℕ → ℕ
room_of lists number = slice_index_or (map spare lists) number 0

-- no list has more
abbrev pub AreFew : List (List (Option Place)) → Type 0
AreFew lists = (number : ℕ) → length (kept_of lists number) ≤ most_boards

-- each key has a list among so many
abbrev pub AreListed : List BoardKey → ℕ → Type 0
AreListed keys count = All (λ (key : BoardKey). key.config < count) keys

-- the list with this number has room for the boards of these keys, and may have so many
pub record IsReady {S : Type 0} (keys : List BoardKey) (lists : List (IndexSet (Option Place) S)) (number : ℕ) : Type 0 where
  pub room : length (places_of number keys) ≤ room_of lists number
  pub few : length (kept_of (keys_of lists) number) + length (places_of number keys) ≤ most_boards

-- each key is of a configuration below this end, and so many are of the one before it
pub record IsGreatest (keys : List BoardKey) (end count : ℕ) : Type 0 where
  pub below : AllByRecursion (λ (key : BoardKey). key.config < end) keys
  pub last : (number : ℕ) → number + 1 ≡ end → count ≡ length (places_of number keys)

-- what is seen of a keep: the boards that are kept of each configuration, and those that are staged to be kept
pub record Keep : Type 0 where
  pub kept : List (List (Option Place))
  pub staged : Option (List BoardKey)

abbrev pub no_keep : Keep
no_keep = record { kept = []; staged = None }

-- there is room for the boards that are staged
abbrev pub HasRoom : {S : Type 0} → Option (List BoardKey) → List (IndexSet (Option Place) S) → Type 0
HasRoom None lists = ⊤
HasRoom (Some keys) lists = AreListed keys (length lists) × ((number : ℕ) → number < length lists → IsReady keys lists number)

-- what holds inside a keep
pub record IsSound {S : Type 0} (staged : Option (List BoardKey)) (lists : List (IndexSet (Option Place) S)) : Type 0 where
  pub few : AreFew (keys_of lists)
  pub room : HasRoom staged lists
