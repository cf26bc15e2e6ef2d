-- What holds of the lines of a sample script.
use Rattle.std.specs.Prelude.{◌≡◌, ◌↔◌, ℕ, ◌==◌, Bool, true, false, List, ◌∷◌, ◌++◌, length}
use Rattle.std.specs.List.{list_any}
use Rattle.bmc_gen.specs.declared.line.Line.{Line}
use Rattle.bmc_gen.specs.declared.line.Line.TheVariants.{Plug, Unplug, LoseT, ReadT, ReadTach, Tick}
use Rattle.bmc_gen.specs.Lines.{is_occupied}
use Rattle.bmc_gen.specs.Scripts.{lines}

abbrev pub unplugs : ℕ → Line → Bool
unplugs address (Plug other) = false
unplugs address (Unplug other) = address == other
unplugs address LoseT = false
unplugs address (ReadT raw) = false
unplugs address (ReadTach raw) = false
unplugs address Tick = false

-- one of the lines plugs a FRU in at the address, and no later one unplugs it
pub record IsPlugged (lines : List Line) (address : ℕ) : Type 0 where
  pub earlier : List Line
  pub later : List Line
  pub split : lines ≡ earlier ++ Plug address ∷ later
  pub stays : list_any (unplugs address) later ≡ false

abbrev pub OccupiedWherePlugged : Type 0
OccupiedWherePlugged = (lines : List Line) (address : ℕ) → (is_occupied lines address ≡ true) ↔ IsPlugged lines address

abbrev pub LinesAreCounted : Type 0
LinesAreCounted = (seed n : ℕ) → length (lines seed n) ≡ n
