-- How the process ends.
use Rattle.std.specs.Prelude.{ℕ, ◌≡◌, List}
use Rattle.bmc_io.specs.Files.{Folder}
use Rattle.pat_gate.specs.Makers.{Maker}
use Rattle.bmc_run.specs.Outside.{Outside}
use Rattle.bmc_replay.specs.Commands.{ReplaysWords}
use Rattle.bmc_replay.specs.declared.status.Status.{Status}
use Rattle.bmc_replay.specs.declared.status.Status.TheVariants.{Done, Refused, Usage, OutOfMemory, ReadFault, WriteFault, TooLong}

-- the number of a status
abbrev pub number_of : Status → ℕ
number_of Done = 0
number_of Refused = 1
number_of Usage = 2
number_of OutOfMemory = 3
number_of ReadFault = 4
number_of WriteFault = 5
number_of TooLong = 6

-- with the number of a status, and between these moments of the outside and of the maker the words were obeyed with this status
pub record Ends (words : List (List ℕ)) (exit : ℕ) (files files_now : Folder) (before now : Outside) (maker maker_now : Maker) : Type 0 where
  pub status : Status
  pub number : exit ≡ number_of status
  pub run : ReplaysWords words status files files_now before now maker maker_now
