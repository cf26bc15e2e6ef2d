-- The statuses of the command.
use Rattle.std.specs.Prelude.{ℕ, zero, suc, Result, Ok, Err}
use Rattle.bmc_run.specs.declared.stop.Stop.{Stop}
use Rattle.bmc_run.specs.declared.stop.Stop.TheVariants as stops
use Rattle.bmc_replay.specs.declared.status.Status.{Status}
use Rattle.bmc_replay.specs.declared.status.Status.TheVariants.{Done, Refused, OutOfMemory, ReadFault, WriteFault, TooLong}

-- the status of a run that ended well, and refused so much, or that stopped
abbrev pub status_of : Result ℕ Stop → Status
status_of (Ok zero) = Done
status_of (Ok (suc more)) = Refused
status_of (Err stops.OutOfMemory) = OutOfMemory
status_of (Err stops.ReadFault) = ReadFault
status_of (Err stops.WriteFault) = WriteFault
status_of (Err stops.TooLong) = TooLong
