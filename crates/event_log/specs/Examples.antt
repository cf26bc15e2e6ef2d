-- Some entries of a log.
use Rattle.std.specs.Prelude.{ℕ, List, map, codes, false, None}
use Rattle.std.specs.List.{range_with_len}
use Rattle.bmc_report.specs.declared.change.Change.{Change}
use Rattle.bmc_report.specs.declared.change.Change.TheVariants as change
use Rattle.event_log.specs.declared.entry.Class.TheVariants.{Error, Info}
use Rattle.event_log.specs.declared.entry.LogEntry.{LogEntry}

-- a new board
abbrev pub new_board : Change
new_board = change.Board false (codes "Riser") 1 None

-- an error, and an info, with this id
abbrev pub error : ℕ → LogEntry
error id = record { id = id; class = Error; tick = 0; change = new_board }

abbrev pub info : ℕ → LogEntry
info id = record { id = id; class = Info; tick = 0; change = new_board }

-- so many infos, with ids from this one on
abbrev pub infos : ℕ → ℕ → List LogEntry
infos from count = map info (range_with_len from count)
