-- What changes from one moment to the next: the boards that go, and those that come.
use Rattle.std.specs.Prelude.{ℕ, Bool, nat_eq, List, filter, map, Option}
use Rattle.std.specs.List.{flat_map, range_with_len}
use Rattle.bmc_base.specs.Places.{Place}
use Rattle.probe_lang.specs.Sights.{entry_sight}
use Rattle.probe_lang.specs.declared.rows.Entry.{Entry}
use Rattle.cfg_json.specs.Configs.{Config}
use Rattle.found_set.specs.Marks.{AreMarked}
use Rattle.found_set.specs.declared.facts.Facts.{Facts}
use Rattle.inventory.specs.Boards.{board_places, has_board}
use Rattle.inventory.specs.Indexes.{except}
use Rattle.inventory.specs.declared.board.BoardKey.{BoardKey}

-- what is seen of a moment: what is found and reachable, and the FRUs that are present
pub record Moment : Type 0 where
  pub facts : Facts
  pub entries : List Entry

-- the marks are those of these tests
pub record IsMarkedBy (facts : Facts) (is_found is_reached : ℕ → Bool) : Type 0 where
  pub found : AreMarked facts.found is_found
  pub reach : AreMarked facts.reach is_reached

-- the boards of each configuration at a moment, where these are found and these buses reachable
abbrev pub boards_at : List Config → (ℕ → Bool) → (ℕ → Bool) → Moment → ℕ → List (Option Place)
boards_at configs found reach moment number = board_places configs found reach (map entry_sight moment.entries) number

abbrev pub key_of : ℕ → Option Place → BoardKey
key_of number place = record { config = number; place = place }

-- the boards that are here and not there, by configuration
abbrev pub keys_left : ℕ → (ℕ → List (Option Place)) → (ℕ → List (Option Place)) → List BoardKey
keys_left count here there = flat_map (λ number. map (key_of number) (except (has_board (there number)) (here number))) (range_with_len 0 count)

-- the places of the keys of one configuration
abbrev pub places_of : ℕ → List BoardKey → List (Option Place)
places_of number keys = map (λ (key : BoardKey). key.place) (filter (λ (key : BoardKey). nat_eq key.config number) keys)
