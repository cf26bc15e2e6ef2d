-- When the boards of a configuration were first met.
use Rattle.std.specs.Prelude.{ℕ, Bool, ◌==◌, ◌&&◌, ◌||◌, nat_lt, if◌then◌else◌, List, [], ◌∷◌, length, filter, Option}
use Rattle.std.specs.Option.{option_eq}
use Rattle.std.specs.List.{position_or_len}
use Rattle.bmc_base.specs.Places.{Place, place_eq}
use Rattle.bmc_machine.specs.Boards.{boards}
use Rattle.bmc_machine.specs.Histories.{Step, standing}
use Rattle.bmc_machine.specs.Indexes.{had_board, kept}

-- when a board was met: after how many steps, and at which position among the boards of that moment, from 0
pub record Meeting : Type 0 where
  pub steps : ℕ
  pub position : ℕ

abbrev pub position_of : Option Place → List (Option Place) → ℕ
position_of place = position_or_len (option_eq place_eq place)

-- when a board was met first: after the shortest beginning of the history after which it is there
abbrev pub first_met : List Step → ℕ → Option Place → Meeting
first_met [] number place = record { steps = 0; position = 0 }
first_met (step ∷ past) number place =
    if had_board past number place then first_met past number place
    else record { steps = length (step ∷ past); position = position_of place (boards (standing (step ∷ past)) number) }

-- after fewer steps, or after as many and there at a position before
abbrev pub is_earlier : Meeting → Meeting → Bool
is_earlier first other = nat_lt first.steps other.steps || (first.steps == other.steps && nat_lt first.position other.position)

-- the boards of the configuration with this number that were first met before this one, each once
abbrev pub met_before : List Step → ℕ → Option Place → List (Option Place)
met_before past number place = filter (λ other. is_earlier (first_met past number other) (first_met past number place)) (kept past number)
