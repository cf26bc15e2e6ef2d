-- Why a run ends, by what came before its last call.
use Rattle.std.proofs.Common.{◌≡◌, ◌∙◌, ap, ℕ, Result, Ok, Err}
use Rattle.bmc_base.specs.Counts.{raised}
use Rattle.bmc_base.specs.Calls.{Calls, Fails}
use Rattle.bmc_io.specs.Sources.{Input}
use Rattle.bmc_run.specs.Outside.{Outside}
use Rattle.bmc_run.specs.Statuses.{HasReason, ReadsWell, WritesWell, WriteCause}
use Rattle.bmc_run.specs.declared.stop.Stop.{Stop}
use Rattle.bmc_run.specs.declared.stop.Stop.TheVariants as stops

pub fails_behind : (before mid now : Calls) → mid.faults ≡ before.faults → Fails mid now → Fails before now
fails_behind before mid now same fails = record { count = fails.count ∙ ap (λ n. raised n 1) same; last = fails.last }

-- the reason stays where no call failed before
pub reason_behind : (result : Result ℕ Stop) (before mid now : Outside) → ReadsWell before mid → WritesWell before mid → HasReason result mid now
    → HasReason result before now
reason_behind (Ok refused) before mid now reads writes reason = (reason.0 ∙ reads, reason.1 ∙ writes)
reason_behind (Err stops.OutOfMemory) before mid now reads writes reason = (reason.0 ∙ reads, reason.1 ∙ writes)
reason_behind (Err stops.ReadFault) before mid now reads writes reason =
    (fails_behind before.input.calls mid.input.calls now.input.calls reads reason.0, reason.1 ∙ writes)
reason_behind (Err stops.WriteFault) before mid now reads writes reason =
    (reason.0 ∙ reads, fails_behind before.output.calls mid.output.calls now.output.calls writes reason.1)
reason_behind (Err stops.TooLong) before mid now reads writes reason = (reason.0 ∙ reads, reason.1 ∙ writes)

-- a write stops
pub reason_written : (stop : Stop) (before mid now : Outside) → ReadsWell before mid → WritesWell before mid → now.input ≡ mid.input
    → WriteCause stop mid.output.calls now.output.calls → HasReason (Err stop) before now
reason_written stops.OutOfMemory before mid now reads writes same cause = (ap (λ (input : Input). input.calls.faults) same ∙ reads, cause ∙ writes)
reason_written stops.WriteFault before mid now reads writes same cause =
    (ap (λ (input : Input). input.calls.faults) same ∙ reads, fails_behind before.output.calls mid.output.calls now.output.calls writes cause)
reason_written stops.ReadFault before mid now reads writes same cause = absurd cause
reason_written stops.TooLong before mid now reads writes same cause = absurd cause

-- all is written
pub reason_ended : (refused : ℕ) (before mid now : Outside) → ReadsWell before mid → WritesWell before mid → now.input ≡ mid.input
    → now.output.calls.faults ≡ mid.output.calls.faults → HasReason (Ok refused) before now
reason_ended refused before mid now reads writes same none = (ap (λ (input : Input). input.calls.faults) same ∙ reads, none ∙ writes)
