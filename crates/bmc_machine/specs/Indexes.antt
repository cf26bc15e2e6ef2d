-- The index that each board keeps for good.
use Rattle.std.specs.Prelude.{ℕ, Bool, false, ◌||◌, List, [], ◌∷◌, ◌++◌, Option}
use Rattle.bmc_base.specs.Places.{Place}
use Rattle.inventory.specs.Boards.{has_board}
use Rattle.inventory.specs.Indexes.{except}
use Rattle.inventory.specs.Lists.{board_list}
use Rattle.inventory.specs.Items.{items, live}
use Rattle.inventory.specs.declared.board.Board.{Board}
use Rattle.cfg_json.specs.declared.item.Item.{Item}
use Rattle.bmc_machine.specs.Boards.{boards, board_keys, fields_at}
use Rattle.bmc_machine.specs.Histories.{Step, standing}

-- whether the configuration with this number had a board there after some beginning of a history
abbrev pub had_board : List Step → ℕ → Option Place → Bool
had_board [] number place = false
had_board (step ∷ past) number place = has_board (boards (standing (step ∷ past)) number) place || had_board past number place

-- All boards that the configuration with this number ever had, each where it came first: by the shortest beginning of the
-- history after which it is a board, and among those of one beginning in the order of boards.
unfoldable pub kept : List Step → ℕ → List (Option Place)
kept [] number = []
kept (step ∷ past) number = kept past number ++ except (had_board past number) (boards (standing (step ∷ past)) number)

-- the boards after a history, by configuration and place, each with its index
unfoldable pub boards_now : List Step → List Board
boards_now past = board_list (kept past) (board_keys (standing past))

-- what they expose, and what of it is live
unfoldable pub items_now : List Step → List Item
items_now past = items (standing past).configs (fields_at (standing past).frus) (boards_now past)

unfoldable pub live_now : List Step → List Item
live_now past = live (items_now past)
