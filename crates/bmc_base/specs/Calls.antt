-- The calls of an object of the outside, as a source, a sink or files.
use Rattle.std.specs.Prelude.{ℕ, ◌≡◌, Bool, true, false, Result, OnErr, OnOk}
use Rattle.bmc_base.specs.Counts.{raised}

-- the calls so far: how many failed, and whether the last one did
pub record Calls : Type 0 where
  pub faults : ℕ
  pub last_failed : Bool

-- no call was made yet
abbrev pub no_calls : Calls
no_calls = record { faults = 0; last_failed = false }

-- one more call, which failed
abbrev pub with_failure : Calls → Calls
with_failure calls = record { faults = raised calls.faults 1; last_failed = true }

-- one more call, which did not fail
abbrev pub with_success : Calls → Calls
with_success calls = record { faults = calls.faults; last_failed = false }

-- one call failed, and none was made after it
pub record Fails (before now : Calls) : Type 0 where
  pub count : now.faults ≡ raised before.faults 1
  pub last : now.last_failed ≡ true

-- on Err one call failed and none was made after it; on Ok none failed
pub record HasCause {T E : Type 0} (before now : Calls) (result : Result T E) : Type 0 where
  pub failed : OnErr result (Fails before now)
  pub none : OnOk result (now.faults ≡ before.faults)
